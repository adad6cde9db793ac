-- The words so far lie in the block, and each fits its 32 bits.
use Rattle.std.proofs.Common.{◌≡◌, ℕ, ◌<◌}
use Rattle.words.proofs.Sealed.{laid_in}
use Rattle.files.proofs.layout.write_block.Given as goal

abbrev pub invariant-loop-i : goal.invariant-loop-i
invariant-loop-i g l =
    record {
      inside : l.buffer ≡ laid_in l.initial.buffer l.block (g.C.Content.word l.content) l.i;
      fit : (k : ℕ) → k < l.i → g.C.Content.word l.content k < 4_294_967_296;
    }
