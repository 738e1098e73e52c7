use Rattle.directory.proofs.Whole.{only_canonical_is_accepted, canonical_is_read_back, one_encoding_one_directory}
use Rattle.directory.proofs.reader.read_directory.Goals as goal

pub returns-clause-accepted : goal.returns-clause-accepted
returns-clause-accepted c = only_canonical_is_accepted

pub returns-clause-returned : goal.returns-clause-returned
returns-clause-returned c = canonical_is_read_back

pub returns-clause-single : goal.returns-clause-single
returns-clause-single c = one_encoding_one_directory
