-- What is said of a node before it is written.
use Rattle.std.specs.Prelude.{ℕ, Bool, false, cond, ◌||◌, List, Ok, Result}
use Rattle.texts.specs.Names.{is_name}
use Rattle.texts.specs.Order.{before}
use Rattle.texts.specs.Utf8.{is_text}
use Rattle.wire.specs.Refusals.{Refusal, refused}
use Rattle.directory.specs.declared.part.Part.{Part}
use Rattle.directory.specs.declared.part.Part.TheVariants.{Files, Directories, Links}
use Rattle.directory.specs.declared.part.Sections.{Sections}
use Rattle.directory.specs.Regions.{names_in, met}

-- whether a name is met in the sections before a part, which lie in m
abbrev pub met_before : List ℕ → Part → Sections → List ℕ → Bool
met_before m Files s name = false
met_before m Directories s name = met name (names_in m (record { start = 0; end = s.directories }))
met_before m Links s name = met name (names_in m (record { start = 0; end = s.directories })) || met name (names_in m (record { start = s.directories; end = s.links }))

-- a name that is to stand at p, behind the name prev: 15, 16, 17, and 18 where it is taken
abbrev pub name_said : (List ℕ → Bool) → List ℕ → ℕ → List ℕ → Result (Unit {0}) Refusal
name_said taken prev p name =
    cond (is_text name) (cond (is_name name) (cond (before prev name) (cond (taken name) (refused 18 p) (Ok tt)) (refused 17 p)) (refused 16 p)) (refused 15 p)
