use Rattle.std.proofs.Common.{◌≡◌, sym, ap, ◌∙◌, rules}
use Rattle.wire.specs.Refusals.{reported}
use Rattle.directory.specs.declared.part.Part.TheVariants.{Files, Directories, Links}
use Rattle.directory.specs.Directories.{up_to, answered}
use Rattle.directory.specs.Steps.{reached_of}
use Rattle.directory.proofs.Places.{refused_by}
use Rattle.directory.proofs.Joining.{At, sorted, answer, files_read, directories_refused, directories_read, links_refused, links_read, one_read}
use Rattle.directory.proofs.reader.read_up_to.Goals as goal
use Rattle.directory.proofs.reader.read_up_to.Goals.{In_ok-files, In_ok-directories}

-- what is reached with the files, and with the directories
files : (c : In_ok-files) → At c.args.bytes.now c.requires Files (record { sections = record { directories = c.in_ok-files.files.end; links = c.in_ok-files.files.end }; latest = c.in_ok-files.files })
files c = files_read c.args.bytes.now c.requires c.in_ok-files.files c.in_ok-files.ensures

both : (c : In_ok-directories) → At c.args.bytes.now c.requires Directories (record { sections = record { directories = c.in_ok-files.files.end; links = c.in_ok-directories.directories.end }; latest = c.in_ok-directories.directories })
both c =
    let f = files_read c.args.bytes.now c.requires c.in_ok-files.files c.in_ok-files.ensures in
    directories_read c.args.bytes.now c.requires _ f c.in_ok-directories.directories c.in_ok-directories.ensures

pub read_section-requires-2 : goal.read_section-requires-2
read_section-requires-2 c = sorted c.args.bytes.now c.requires Files _ (files (goal.at.read_section-requires-2 c).In_ok-files)

pub returns-in_err-directories : goal.returns-in_err-directories
returns-in_err-directories c =
    let m = c.args.bytes.now in
    let n : c.args.part ≡ Files → ⊥ = search rules in
    let f = files (goal.at.returns-in_err-directories c).In_ok-files in
    ap reported (refused_by _ _ c.from_residual-in_err-directories.ensures.1)
    ∙ sym (ap (answered reached_of) (one_read m c.requires c.args.part _ n (directories_refused m c.requires _ f _ c.in_err-directories.ensures)))

pub returns-then-eq-2 : goal.returns-then-eq-2
returns-then-eq-2 c =
    let m = c.args.bytes.now in
    let e : c.args.part ≡ Directories = search rules in
    answer m c.requires Directories _ (both (goal.at.returns-then-eq-2 c).In_ok-directories) ∙ ap (λ p. answered reached_of (up_to p m)) (sym e)

pub read_section-requires-3 : goal.read_section-requires-3
read_section-requires-3 c = sorted c.args.bytes.now c.requires Directories _ (both (goal.at.read_section-requires-3 c).In_ok-directories)

pub returns-in_err-links : goal.returns-in_err-links
returns-in_err-links c =
    let m = c.args.bytes.now in
    let e : c.args.part ≡ Links = search rules in
    let b = both (goal.at.returns-in_err-links c).In_ok-directories in
    ap reported (refused_by _ _ c.from_residual-in_err-links.ensures.1)
    ∙ sym (ap (λ q. answered reached_of (up_to q m)) e ∙ ap (answered reached_of) (links_refused m c.requires _ b _ c.in_err-links.ensures))

pub returns : goal.returns
returns c =
    let m = c.args.bytes.now in
    let e : c.args.part ≡ Links = search rules in
    let b = both (goal.at.returns c).In_ok-directories in
    answer m c.requires Links _ (links_read m c.requires _ b c.in_ok-links.links c.in_ok-links.ensures) ∙ ap (λ p. answered reached_of (up_to p m)) (sym e)
