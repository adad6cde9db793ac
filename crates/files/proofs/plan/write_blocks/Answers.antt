-- `write_blocks` meets its contract: each block comes after the ones before it.
use Rattle.std.proofs.Common.{◌≡◌, ℕ, ◌+◌, List, ◌++◌, length, take, drop, sym, ◌∙◌, ap, append_assoc, length-append, arith}
use Rattle.std.proofs.Math.Seq.{take_at, drop-append-add, drop-drop}
use Rattle.words.specs.Check.{start_of}
use Rattle.words.proofs.Sealed.{length_block}
use Rattle.formats.specs.PlanFile.{plan_word, plan_block}
use Rattle.formats.specs.RequestFile.{request_file}
use Rattle.formats.proofs.RequestFile.{length_file}
use Rattle.files.proofs.plan.write_blocks.Goals as goal

-- Writing a block after n bytes that were written leaves both, and after them what was there.
abbrev put : ℕ → List ℕ → List ℕ → List ℕ
put n block buffer = take n buffer ++ (block ++ drop (n + 512) buffer)

put_behind : (front block buffer : List ℕ) (n : ℕ) → length front ≡ n
    → put n block (front ++ drop n buffer) ≡ (front ++ block) ++ drop (n + 512) buffer
put_behind front block buffer n e =
    rw (
      take_at front (drop n buffer) n e,
      ap (λ (k : ℕ). drop (k + 512) (front ++ drop n buffer)) (sym e),
      drop-append-add front (drop n buffer) 512,
      drop-drop 512 n buffer,
      append_assoc front block (drop (n + 512) buffer),
    )

both_behind : (a b c buffer : List ℕ) → length a ≡ 512 → length b ≡ 512
    → put 1024 c (put 512 b (a ++ drop 512 buffer)) ≡ (a ++ (b ++ c)) ++ drop 1536 buffer
both_behind a b c buffer e f =
    ap (put 1024 c) (put_behind a b buffer 512 e)
    ∙ put_behind (a ++ b) c buffer 1024 (rw length-append (omega arith))
    ∙ ap (λ (x : List ℕ). x ++ drop 1536 buffer) (append_assoc a b c)

pub returns : goal.returns
returns c =
    let r = c.args.request.now in
    let p = c.args.plan.now in
    c.write_half-2.ensures
    ∙ ap (put 1024 (plan_block p 1)) (c.write_half.ensures ∙ ap (put 512 (plan_block p 0)) c.write_block.ensures)
    ∙ both_behind (request_file r) (plan_block p 0) (plan_block p 1) c.args.buffer.now (length_file r)
    (length_block (start_of 1) (plan_word p 0))
