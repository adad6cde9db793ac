-- `write_block` meets its contract: word after word is put in behind the blocks before it, and then the block is sealed.
use Rattle.std.proofs.Common.{◌≡◌, ℕ, ◌+◌, ◌*◌, ◌<◌, ◌∙◌, ap₂, subst, below_none, below_more, arith}
use Rattle.words.specs.Words.{with_word}
use Rattle.words.specs.Check.{sealed_in, start_of}
use Rattle.words.proofs.Sealed.{none_laid_in, laid_in_more, seal_laid_in}
use Rattle.files.proofs.layout.write_block.Goals as goal

pub loop-i-init : goal.loop-i-init
loop-i-init g c = record { inside = none_laid_in c.args.buffer.now c.args.block _; fit = below_none _ }

pub loop-i-preserved : goal.loop-i-preserved
loop-i-preserved g c =
    let a = c.args in
    record {
      inside = c.put.ensures
          ∙ ap₂ (λ b x. with_word b (128 * c.from-from.result + c.loop-i.i) x) c.loop-i.invariant.inside c.word.ensures
          ∙ rw c.from-from.ensures (laid_in_more a.buffer.now a.block c.requires _ c.loop-i.i (omega arith));
      fit = below_more _ c.loop-i.i c.loop-i.invariant.fit (subst (λ (x : ℕ). x < 4_294_967_296) c.word.ensures c.word.type_inv);
    }

pub returns : goal.returns
returns g c =
    let a = c.args in
    let full : c.loop-i.i ≡ 127 = omega arith in
    c.seal.ensures
    ∙ ap₂ (λ s b. sealed_in s b a.block) c.start_of.ensures (rw full at c.loop-i.invariant.inside)
    ∙ seal_laid_in a.buffer.now a.block c.requires _ (start_of a.block) (512 * (a.block + 1)) (omega arith)
    (λ k h. c.loop-i.invariant.fit k (omega arith))
