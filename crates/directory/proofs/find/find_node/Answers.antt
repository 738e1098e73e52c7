use Rattle.std.proofs.Common.{sym, refl, ◌∙◌}
use Rattle.nodes.specs.Kinds.{file_reads, file_value, directory_reads, directory_value, link_finds, link_value}
use Rattle.directory.specs.Items.{file, directory, link}
use Rattle.directory.proofs.Located.{told, mapped}
use Rattle.directory.proofs.find.find_node.Goals as goal

pub returns-in-Some-eq10-clause-value : goal.returns-in-Some-eq10-clause-value
returns-in-Some-eq10-clause-value c =
    let l = c.in-Some-eq10.ensures.lookup.3 in
    mapped file_value file c.args.bytes.now _ _ _ c.map.ensures.cases (λ x y p. cc) ∙ c.find_as.ensures.value file
    ∙ told c.args.place c.args.bytes.now 0x0A file_reads file (λ bs. refl) l.0 (sym (l.1 0) ∙ c.in-Some-eq10.field-0-test)

pub returns-in-Some-eq18-clause-value : goal.returns-in-Some-eq18-clause-value
returns-in-Some-eq18-clause-value c =
    let l = c.in-Some-eq18.ensures.lookup.3 in
    mapped directory_value directory c.args.bytes.now _ _ _ c.map-in-Some-eq18.ensures.cases (λ x y p. cc) ∙ c.find_as-in-Some-eq18.ensures.value directory
    ∙ told c.args.place c.args.bytes.now 0x12 directory_reads directory (λ bs. refl) l.0 (sym (l.1 0) ∙ c.in-Some-eq18.field-0-test)

pub returns-in-Some-eq26-clause-value : goal.returns-in-Some-eq26-clause-value
returns-in-Some-eq26-clause-value c =
    let l = c.in-Some-eq26.ensures.lookup.3 in
    mapped link_value link c.args.bytes.now _ _ _ c.map-in-Some-eq26.ensures.cases (λ x y p. cc) ∙ c.find_as-in-Some-eq26.ensures.value link
    ∙ told c.args.place c.args.bytes.now 0x1A link_finds link (λ bs. refl) l.0 (sym (l.1 0) ∙ c.in-Some-eq26.field-0-test)
