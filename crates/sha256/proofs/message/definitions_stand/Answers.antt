use Rattle.sha256.proofs.Laws as laws
use Rattle.sha256.proofs.message.definitions_stand.Goals as goal

pub returns-clause-examples : goal.returns-clause-examples
returns-clause-examples c = laws.examples

pub returns-clause-whole_blocks : goal.returns-clause-whole_blocks
returns-clause-whole_blocks c = laws.whole_blocks

pub returns-clause-hashes : goal.returns-clause-hashes
returns-clause-hashes c = laws.hashes

pub returns-clause-constants : goal.returns-clause-constants
returns-clause-constants c = laws.constants_are_roots
