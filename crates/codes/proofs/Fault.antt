-- The number and the place for which a request file is not turned into a plan file name a fault that is there, and the first one.
use Prim.Native.Nat.{ℕ}
use mathlib.Core.Logic.{◌⊎◌, inl, inr}
use mathlib.Core.Path.{◌≡◌, refl, subst}
use mathlib.Core.List.Memᴰ
use mathlib.Core.List.{List, [], ◌∷◌}
use native.Mathlib.Omega.{arith}
use lib.ListN.{length}
use borrow.Author.Tests.{lt-ltb}
use Rattle.switch.specs.Given.{Gives, NoLater}
use Rattle.switch.specs.Rows.{Row, or_else, verdict_of}
use Rattle.switch.specs.declared.verdict.Verdict.{Verdict}
use Rattle.switch.specs.declared.verdict.Verdict.TheVariants.{Accepted, Refused}
use Rattle.switch.proofs.First.{ascending, Noticed, first_of_noticed, none_of_noticed}
use Rattle.switch.proofs.Rows.{each_nil, each_cons, gives_named, verdict_append}
use Rattle.formats.specs.FileRows.{room_row}
use Rattle.formats.specs.RequestFile.{request_file_rows, read_verdict}
use Rattle.formats.proofs.Fault.{room_named, read_fault}
use Rattle.formats.proofs.Noticed.{read_noticed, read_rising, room_rising}
use Rattle.codes.specs.Code.{plan_rows, plan_verdict}
use Rattle.codes.specs.Fault.{LaidFault, of_file, room}

-- What is given by the first of two verdicts that does not accept is given by one of them.
gives_either : (a b : Verdict) (k p : ℕ) → Gives (or_else a b) k p → Gives a k p ⊎ Gives b k p
gives_either Accepted b k p g = inr g
gives_either (Refused x) b k p g = inl g

pub laid_fault : (file buffer : List ℕ) (k p : ℕ) → Gives (plan_verdict file buffer) k p → LaidFault file buffer k p
laid_fault file buffer k p g =
    go (gives_either (read_verdict file) (verdict_of rows) k p
    (subst (λ (v : Verdict). Gives v k p) (verdict_append (request_file_rows file) rows) g))
  where
    rows : List Row
    rows = room_row 1536 buffer ∷ []

    go : Gives (read_verdict file) k p ⊎ Gives (verdict_of rows) k p → LaidFault file buffer k p
    go (inl read) = of_file (read_fault file k p read)
    go (inr short) =
        gives_named rows (LaidFault file buffer)
        (each_cons _ (room_named (LaidFault file buffer) 1536 buffer room) (each_nil _)) k p short

module _ (file buffer : List ℕ) where
  laid_noticed : Noticed (plan_rows file buffer) (LaidFault file buffer)
  laid_noticed Q on all k p = go
    where
      go : {k p : ℕ} → LaidFault file buffer k p → Q k p
      go (of_file {k} {p} f) = read_noticed file Q on (λ row m. all row (Memᴰ.append_left (room_row 1536 buffer ∷ []) m)) k p f
      go (room short) =
          all (room_row 1536 buffer) (Memᴰ.append_right (request_file_rows file) (Memᴰ.head refl)) 0 (omega arith)
          (lt-ltb (length buffer) 1536 short)

  pub laid_first : (k p : ℕ) → Gives (plan_verdict file buffer) k p → (k' p' : ℕ) → LaidFault file buffer k' p' → NoLater k p k' p'
  unfolding ascending
  laid_first =
      first_of_noticed (plan_rows file buffer) (LaidFault file buffer) laid_noticed refl (read_rising file (room_rising 1536 buffer))

  pub laid_none : plan_verdict file buffer ≡ Accepted → (k p : ℕ) → LaidFault file buffer k p → ⊥
  laid_none = none_of_noticed (plan_rows file buffer) (LaidFault file buffer) laid_noticed
