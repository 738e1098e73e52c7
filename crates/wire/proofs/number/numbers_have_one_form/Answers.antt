use Rattle.wire.proofs.Forms.{number_is_read_back, form_is_the_only_one}
use Rattle.wire.proofs.number.numbers_have_one_form.Goals as goal

pub returns : goal.returns
returns c = record { read_back = number_is_read_back; one_form = form_is_the_only_one }
