use Rattle.std.proofs.Common.{refl, ◌∙◌, arith, length-set}
use Rattle.sha256.specs.Sha256.{schedule}
use Rattle.sha256.proofs.Rounds.{words_first, words_next}
use Rattle.sha256.proofs.schedule.schedule.Goals as goal

pub loop-t-init : goal.loop-t-init
unfolding schedule
loop-t-init c = record { long = refl; words = refl }

pub loop-t-preserved : goal.loop-t-preserved
loop-t-preserved c =
    let sofar = c.loop-t.invariant in
    record {
      long = length-set c.loop-t.w c.loop-t.t c.block_word.result ∙ sofar.long;
      words = words_first c.args.block.now c.loop-t.w c.loop-t.t c.block_word.result (omega (arith, sofar.long)) (omega arith) sofar.words c.block_word.ensures;
    }

pub loop-t-2-preserved : goal.loop-t-2-preserved
loop-t-2-preserved c =
    let sofar = c.loop-t-2.invariant in
    record {
      long = length-set c.loop-t-2.w c.loop-t-2.t c.next_word.result ∙ sofar.long;
      words = words_next c.args.block.now c.loop-t-2.w c.loop-t-2.t c.next_word.result (omega (arith, sofar.long)) c.loop-t-2.auto.t sofar.words c.next_word.ensures;
    }
