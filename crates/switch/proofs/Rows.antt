-- When a refusal is given, for any list of rows: what a verdict says, and what it says of the rows.
use Prim.Native.Nat.{ℕ, ◌+◌, ◌≤◌, ◌<◌}
use mathlib.Core.Logic.{◌⊎◌, inl, inr, ◌↔◌}
use mathlib.Core.Path.{◌≡◌, refl, sym, ◌∙◌, ap, subst}
use mathlib.Core.List.{List, [], ◌∷◌, ◌++◌, append-nil}
use mathlib.Core.List.{Memᴰ}
use mathlib.Core.Bool.{true, false}
use native.Mathlib.Nat.{add-sub_cancel_left, le_dest}
use native.Mathlib.Omega.{arith}
use borrow.Author.Tests.{lt-ltb, le-ltb}
use Rattle.laws.proofs.Search.{le_or_lt}
use Rattle.switch.specs.Given.{Silent, AllSilent, First, Applies, Gives}
use Rattle.switch.specs.Numbering.{number_of}
use Rattle.switch.specs.Rows.{Row, joined, at, nothing, first_of, refusal, verdict_at, row_verdict, or_else, verdict_of}
use Rattle.switch.specs.declared.verdict.Cause.{Cause}
use Rattle.switch.specs.declared.verdict.Refusal.{Refusal}
use Rattle.switch.specs.declared.verdict.Verdict.{Verdict}
use Rattle.switch.specs.declared.verdict.Verdict.TheVariants.{Accepted, Refused}
use Rattle.switch.proofs.Search.{at_of_first, nothing_of_silent, silent_or_first}

pub verdict_end : verdict_of [] ≡ Accepted
unfolding verdict_of
verdict_end = refl

pub refusal_gives : (c : Cause) (p : ℕ) → Gives (refusal c p) (number_of c) p
refusal_gives c p = (refl, refl)

pub or_else_accepted : (v : Verdict) → or_else v Accepted ≡ v
or_else_accepted Accepted = refl
or_else_accepted (Refused x) = refl

pub or_else_assoc : (a b c : Verdict) → or_else (or_else a b) c ≡ or_else a (or_else b c)
or_else_assoc Accepted b c = refl
or_else_assoc (Refused x) b c = refl

pub accepts_both : (a b : Verdict) → or_else a b ≡ Accepted → (a ≡ Accepted) × (b ≡ Accepted)
accepts_both Accepted b e = (refl, e)
accepts_both (Refused x) b e = let z : ◌≡◌ {A = ℕ} 0 1 = cc in absurd (omega arith)

-- Of two lists of rows the first is heard, and the second only if the first accepts.
pub verdict_append : (a b : List Row) → verdict_of (a ++ b) ≡ or_else (verdict_of a) (verdict_of b)
unfolding verdict_of
verdict_append [] b = refl
verdict_append (row ∷ a) b =
    ap (or_else (row_verdict row)) (verdict_append a b) ∙ sym (or_else_assoc (row_verdict row) (verdict_of a) (verdict_of b))

-- The first row decides, or leaves it to the rest.
pub verdict_at_lem : (row : Row) (rest : List Row) (i : ℕ) → first_of row ≡ at i → verdict_of (row ∷ rest) ≡ refusal row.cause (row.place i)
unfolding verdict_of row_verdict
verdict_at_lem row rest i e = rw e

pub verdict_past : (row : Row) (rest : List Row) → first_of row ≡ nothing → verdict_of (row ∷ rest) ≡ verdict_of rest
unfolding verdict_of row_verdict
verdict_past row rest e = rw e

-- What each row of a list has.
abbrev pub Each : (Row → Type 0) → List Row → Type 0
Each P rows = (row : Row) → Memᴰ row rows → P row

pub each_nil : (P : Row → Type 0) → Each P []
each_nil P x m = absurd (mathlib.Core.List.Memᴰ.not-nil m)

pub each_cons : (P : Row → Type 0) {row : Row} {rows : List Row} → P row → Each P rows → Each P (row ∷ rows)
each_cons P {row} {rows} p all x m = go (mathlib.Core.List.Memᴰ.cases_cons m)
  where
    go : (x ≡ row) ⊎ Memᴰ x rows → P x
    go (inl e) = subst P (sym e) p
    go (inr l) = all x l

pub each_here : (P : Row → Type 0) {row : Row} {rows : List Row} → Each P (row ∷ rows) → P row
each_here P {row} all = all row (mathlib.Core.List.Memᴰ.head refl)

pub each_after : (P : Row → Type 0) {row : Row} {rows : List Row} → Each P (row ∷ rows) → Each P rows
each_after P all x m = all x (mathlib.Core.List.Memᴰ.tail m)

pub each_after_three : (P : Row → Type 0) {a b c : Row} {rows : List Row} → Each P (a ∷ b ∷ c ∷ rows) → Each P rows
each_after_three P all = each_after P (each_after P (each_after P all))

pub silent_nil : AllSilent []
silent_nil = each_nil Silent

pub silent_cons : {row : Row} {rows : List Row} → Silent row → AllSilent rows → AllSilent (row ∷ rows)
silent_cons = each_cons Silent

pub silent_here : {row : Row} {rows : List Row} → AllSilent (row ∷ rows) → Silent row
silent_here = each_here Silent

pub silent_after : {row : Row} {rows : List Row} → AllSilent (row ∷ rows) → AllSilent rows
silent_after = each_after Silent

-- Whatever offends against a row, the row's number and the offender's place have Q.
abbrev pub Named : (ℕ → ℕ → Type 0) → Row → Type 0
Named Q row = (i : ℕ) → i < row.size → row.offends i ≡ true → Q (number_of row.cause) (row.place i)

-- A row in two parts of one cause says what the first part says, or else the second.
module _ (a b : Row) where
  low : (i : ℕ) → i < a.size → (joined a b).offends i ≡ a.offends i
  low i h = rw (lt-ltb i a.size h)

  high : (j : ℕ) → (joined a b).offends (a.size + j) ≡ b.offends j
  high j = rw (le-ltb (a.size + j) a.size (omega arith), add-sub_cancel_left a.size j)

  pub low_place : (i : ℕ) → i < a.size → (joined a b).place i ≡ a.place i
  low_place i h = rw (lt-ltb i a.size h)

  pub high_place : (j : ℕ) → (joined a b).place (a.size + j) ≡ b.place j
  high_place j = rw (le-ltb (a.size + j) a.size (omega arith), add-sub_cancel_left a.size j)

  -- what holds of the first part's candidates and of the second's holds of all
  pub by_part : (Q : ℕ → Type 0) → ((i : ℕ) → i < a.size → Q i) → ((j : ℕ) → j < b.size → Q (a.size + j))
      → (i : ℕ) → i < a.size + b.size → Q i
  by_part Q first second i h = go (le_or_lt a.size i)
    where
      go : (a.size ≤ i) ⊎ (i < a.size) → Q i
      go (inr l) = first i l
      go (inl l) = let (j, e) = le_dest l in subst Q e (second j (omega arith))

  pub silent_joined : Silent a → Silent b → Silent (joined a b)
  silent_joined sa sb =
      by_part (λ i. (joined a b).offends i ≡ false) (λ i h. low i h ∙ sa i h) (λ j h. high j ∙ sb j h)

  pub named_joined : (Q : ℕ → ℕ → Type 0) → a.cause ≡ b.cause → Named Q a → Named Q b → Named Q (joined a b)
  named_joined Q same na nb =
      by_part (λ i. (joined a b).offends i ≡ true → Q (number_of a.cause) ((joined a b).place i))
      (λ i h e. rw (low_place i h) (na i h (sym (low i h) ∙ e)))
      (λ j h e. rw (high_place j, same) (nb j h (sym (high j) ∙ e)))

  pub named_first : (Q : ℕ → ℕ → Type 0) → Named Q (joined a b) → Named Q a
  named_first Q n i h e = rw (low_place i h) at (n i (omega arith) (low i h ∙ e))

  pub named_second : (Q : ℕ → ℕ → Type 0) → a.cause ≡ b.cause → Named Q (joined a b) → Named Q b
  named_second Q same n j h e = rw (high_place j, same) at (n (a.size + j) (omega arith) (high j ∙ e))

  pub silent_first : Silent (joined a b) → Silent a
  silent_first s i h = sym (low i h) ∙ s i (omega arith)

  pub silent_second : Silent (joined a b) → Silent b
  silent_second s j h = sym (high j) ∙ s (a.size + j) (omega arith)

  first_of_first : (i : ℕ) → First a i → First (joined a b) i
  first_of_first i f =
      record {
        below = let h = f.below in omega arith;
        here = low i f.below ∙ f.here;
        earlier = λ k l. low k (let h = f.below in omega arith) ∙ f.earlier k l;
      }

  first_of_second : (j : ℕ) → Silent a → First b j → First (joined a b) (a.size + j)
  first_of_second j s f =
      record {
        below = let h = f.below in omega arith;
        here = high j ∙ f.here;
        earlier = λ k l.
            by_part (λ i. i < a.size + j → (joined a b).offends i ≡ false) (λ i h t. low i h ∙ s i h)
            (λ i h t. high i ∙ f.earlier i (omega arith)) k (let h = f.below in omega arith) l;
      }

  pub joined_verdict : a.cause ≡ b.cause → row_verdict (joined a b) ≡ or_else (row_verdict a) (row_verdict b)
  unfolding row_verdict
  joined_verdict same = go (silent_or_first a) (silent_or_first b)
    where
      go : Silent a ⊎ ((i : ℕ) × First a i) → Silent b ⊎ ((j : ℕ) × First b j)
          → verdict_at (joined a b) (first_of (joined a b)) ≡ or_else (verdict_at a (first_of a)) (verdict_at b (first_of b))
      go (inr (i, f)) t =
          rw (at_of_first (joined a b) (first_of_first i f), at_of_first a f, lt-ltb i a.size f.below)
      go (inl s) (inr (j, f)) =
          rw (
            at_of_first (joined a b) (first_of_second j s f),
            nothing_of_silent a s,
            at_of_first b f,
            le-ltb (a.size + j) a.size (omega arith),
            add-sub_cancel_left a.size j,
            same,
          )
      go (inl s) (inl t) =
          rw (nothing_of_silent (joined a b) (silent_joined s t), nothing_of_silent a s, nothing_of_silent b t)

  -- If it is the last row, the second part is heard after everything else.
  pub verdict_joined : (before : List Row) → a.cause ≡ b.cause
      → verdict_of (before ++ (joined a b ∷ [])) ≡ or_else (verdict_of (before ++ (a ∷ []))) (row_verdict b)
  unfolding verdict_of
  verdict_joined before same =
      rw (
        verdict_append before (joined a b ∷ []),
        verdict_append before (a ∷ []),
        or_else_accepted (row_verdict (joined a b)),
        or_else_accepted (row_verdict a),
        joined_verdict same,
        or_else_assoc (verdict_of before) (row_verdict a) (row_verdict b),
      )

-- Silent rows leave it to what follows them.
verdict_past_all : (before rest : List Row) → AllSilent before → verdict_of (before ++ rest) ≡ verdict_of rest
verdict_past_all [] rest all = refl
verdict_past_all (row ∷ before) rest all =
    verdict_past row (before ++ rest) (nothing_of_silent row (all row (mathlib.Core.List.Memᴰ.head refl)))
    ∙ verdict_past_all before rest (λ x m. all x (mathlib.Core.List.Memᴰ.tail m))

refused_of_applies : (rows : List Row) (row : Row) (p : ℕ) → Applies rows row p → verdict_of rows ≡ refusal row.cause p
refused_of_applies rows row p a =
    ap verdict_of a.split ∙ verdict_past_all a.before (row ∷ a.after) a.silent
    ∙ verdict_at_lem row a.after a.offender (at_of_first row a.first)
    ∙ ap (refusal row.cause) (sym a.place)

-- A row in front that has no offender.
applies_past : {x : Row} {rows : List Row} {row : Row} {p : ℕ} → Silent x → Applies rows row p → Applies (x ∷ rows) row p
applies_past {x} s a =
    record {
      before = x ∷ a.before;
      after = a.after;
      split = ap (λ (l : List Row). x ∷ l) a.split;
      silent = silent_cons s a.silent;
      offender = a.offender;
      first = a.first;
      place = a.place;
    }

applies_of_refused : (rows : List Row) (c : Cause) (p : ℕ)
    → verdict_of rows ≡ refusal c p
    → (row : Row) × Applies rows row p × (row.cause ≡ c)
applies_of_refused [] c p e =
    let v = verdict_end in
    let z : ◌≡◌ {A = ℕ} 0 1 = cc in
    absurd (omega arith)
applies_of_refused (x ∷ rows) c p e = go (silent_or_first x) (applies_of_refused rows c p)
  where
    go : Silent x ⊎ ((i : ℕ) × First x i)
        → (verdict_of rows ≡ refusal c p → (row : Row) × Applies rows row p × (row.cause ≡ c))
        → (row : Row) × Applies (x ∷ rows) row p × (row.cause ≡ c)
    go (inl s) later =
        let (row, a, k) = later (sym (verdict_past x rows (nothing_of_silent x s)) ∙ e) in
        (row, applies_past s a, k)
    go (inr (i, f)) later =
        let v = verdict_at_lem x rows i (at_of_first x f) in
        let same : ◌≡◌ {A = Refusal} (record { cause = x.cause; place = x.place i }) (record { cause = c; place = p }) = cc in (
          x,
          record {
            before = [];
            after = rows;
            split = refl;
            silent = silent_nil;
            offender = i;
            first = f;
            place = sym (ap (λ (y : Refusal). y.place) same);
          },
          ap (λ (y : Refusal). y.cause) same,
        )

-- A verdict refuses with a cause at a place exactly when a row of that cause applies there.
pub refused_exactly : (rows : List Row) (c : Cause) (p : ℕ)
    → (verdict_of rows ≡ refusal c p) ↔ ((row : Row) × Applies rows row p × (row.cause ≡ c))
refused_exactly rows c p =
    (applies_of_refused rows c p, λ (row, a, e). refused_of_applies rows row p a ∙ ap (λ (k : Cause). refusal k p) e)

silent_of_accepted : (rows : List Row) → verdict_of rows ≡ Accepted → AllSilent rows
silent_of_accepted [] e = silent_nil
silent_of_accepted (x ∷ rows) e = go (silent_or_first x) (silent_of_accepted rows)
  where
    go : Silent x ⊎ ((i : ℕ) × First x i) → (verdict_of rows ≡ Accepted → AllSilent rows) → AllSilent (x ∷ rows)
    go (inl s) later = silent_cons s (later (sym (verdict_past x rows (nothing_of_silent x s)) ∙ e))
    go (inr (i, f)) later =
        let v = verdict_at_lem x rows i (at_of_first x f) in
        let z : ◌≡◌ {A = ℕ} 0 1 = cc in
        absurd (omega arith)

accepted_of_silent : (rows : List Row) → AllSilent rows → verdict_of rows ≡ Accepted
accepted_of_silent rows all = ap verdict_of (sym (append-nil rows)) ∙ verdict_past_all rows [] all ∙ verdict_end

-- A verdict accepts exactly when no row has an offender.
pub accepted_exactly : (rows : List Row) → (verdict_of rows ≡ Accepted) ↔ AllSilent rows
accepted_exactly rows = (silent_of_accepted rows, accepted_of_silent rows)

-- The same of one row.
alone : (row : Row) → verdict_of (row ∷ []) ≡ row_verdict row
unfolding verdict_of
alone row = or_else_accepted (row_verdict row)

pub row_accepted_exactly : (row : Row) → (row_verdict row ≡ Accepted) ↔ Silent row
row_accepted_exactly row = (
  λ e. silent_here (silent_of_accepted (row ∷ []) (alone row ∙ e)),
  λ s. sym (alone row) ∙ accepted_of_silent (row ∷ []) (silent_cons s silent_nil),
)

-- What comes second is heard only where the first accepts.
pub or_else_under : (v : Verdict) {x y : Verdict} → (v ≡ Accepted → x ≡ y) → or_else v x ≡ or_else v y
or_else_under Accepted same = same refl
or_else_under (Refused x) same = refl

-- Number k at place p is given exactly when a row of that number applies there.
pub given_exactly : (rows : List Row) (k p : ℕ)
    → Gives (verdict_of rows) k p ↔ ((row : Row) × Applies rows row p × (number_of row.cause ≡ k))
given_exactly rows k p = (go (verdict_of rows) refl, back)
  where
    go : (v : Verdict) → verdict_of rows ≡ v → Gives v k p → (row : Row) × Applies rows row p × (number_of row.cause ≡ k)
    go Accepted e g = absurd g
    go (Refused x) e (number, place) =
        let (row, a, same) = applies_of_refused rows x.cause p (e ∙ ap (refusal x.cause) place) in
        (row, a, ap number_of same ∙ number)

    back : (row : Row) × Applies rows row p × (number_of row.cause ≡ k) → Gives (verdict_of rows) k p
    back (row, a, number) = rw (refused_of_applies rows row p a) (number, refl)

-- So what is given has what every offender of every row has.
pub gives_named : (rows : List Row) (Q : ℕ → ℕ → Type 0) → Each (Named Q) rows → (k p : ℕ) → Gives (verdict_of rows) k p → Q k p
gives_named rows Q each k p g =
    let (row, a, number) = (given_exactly rows k p).0 g in
    let among : Memᴰ row rows = subst (Memᴰ row) (sym a.split) (mathlib.Core.List.Memᴰ.append_right a.before (mathlib.Core.List.Memᴰ.head refl)) in
    let found = each row among a.offender a.first.below a.first.here in
    subst (λ (n : ℕ). Q n p) number (subst (Q (number_of row.cause)) (sym a.place) found)

-- A row in two parts whose first part has been asked with `?`: a refusal of that part is the row's, and after an acceptance the
-- second part decides.
pub joined_left : (a b : Row) {x : Verdict} {r : Refusal} → a.cause ≡ b.cause → x ≡ row_verdict a → x ≡ Refused r
    → Refused r ≡ row_verdict (joined a b)
joined_left a b same h e = sym (joined_verdict a b same ∙ ap (λ v. or_else v (row_verdict b)) (sym h ∙ e))

pub joined_right : (a b : Row) {x y : Verdict} → a.cause ≡ b.cause → x ≡ row_verdict a → x ≡ Accepted → y ≡ row_verdict b
    → y ≡ row_verdict (joined a b)
joined_right a b same h e k = k ∙ sym (joined_verdict a b same ∙ ap (λ v. or_else v (row_verdict b)) (sym h ∙ e))
