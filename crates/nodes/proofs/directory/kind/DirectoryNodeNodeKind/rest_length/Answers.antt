use Rattle.nodes.proofs.directory.kind.DirectoryNodeNodeKind.rest_length.Goals as goal

pub returns-clause-value : goal.returns-clause-value
returns-clause-value c = c.digest_field_length.ensures.value 0x12
