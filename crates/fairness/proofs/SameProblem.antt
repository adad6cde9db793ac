-- Two problems that agree wherever there are flows and limits have the same fair allocations.
use Prim.Native.Nat.{ℕ, zero, suc, ◌<◌}
use mathlib.Core.Path.{◌≡◌, refl, sym, ap, ◌∙◌}
use mathlib.Core.Bool.{Bool}
use native.Mathlib.Omega.{arith}
use Rattle.fairness.specs.Total.{total}
use Rattle.fairness.specs.Problem.{Problem, across}
use Rattle.fairness.specs.Fairness.{Allocation, Allowed, Better, Fair}

pub record Agree (P Q : Problem) : Type 0 where
  pub flows : P.flows ≡ Q.flows
  pub limits : P.limits ≡ Q.limits
  pub through : (l c : ℕ) → l < P.limits → c < P.flows → P.through l c ≡ Q.through l c
  pub capacity : (l : ℕ) → l < P.limits → P.capacity l ≡ Q.capacity l
  pub demand : (c : ℕ) → c < P.flows → P.demand c ≡ Q.demand c
  pub minimum : (c : ℕ) → c < P.flows → P.minimum c ≡ Q.minimum c
  pub weight : (c : ℕ) → c < P.flows → P.weight c ≡ Q.weight c

agree_sym : {P Q : Problem} → Agree P Q → Agree Q P
agree_sym agree =
    record {
      flows = sym agree.flows;
      limits = sym agree.limits;
      through = λ l c hl hc. sym (agree.through l c (rw agree.limits hl) (rw agree.flows hc));
      capacity = λ l hl. sym (agree.capacity l (rw agree.limits hl));
      demand = λ c hc. sym (agree.demand c (rw agree.flows hc));
      minimum = λ c hc. sym (agree.minimum c (rw agree.flows hc));
      weight = λ c hc. sym (agree.weight c (rw agree.flows hc));
    }

-- A sum over two sets that have the same flows.
total_sets : (n : ℕ) (s t : ℕ → Bool) (x : ℕ → ℕ) → ((c : ℕ) → c < n → s c ≡ t c) → total n s x ≡ total n t x
unfolding total
total_sets zero s t x same = refl
total_sets (suc n) s t x same = rw (total_sets n s t x (λ c hc. same c (omega arith)), same n (omega arith))

module _ {P Q : Problem} (agree : Agree P Q) where
  pub across_agree : (l : ℕ) (x : ℕ → ℕ) → l < P.limits → across P l x ≡ across Q l x
  across_agree l x hl =
      total_sets P.flows (P.through l) (Q.through l) x (λ c hc. agree.through l c hl hc)
      ∙ ap (λ n. total n (Q.through l) x) agree.flows

  allowed_agree : (a : Allocation) → Allowed P a → Allowed Q a
  allowed_agree a ok =
      record {
        positive = ok.positive;
        feasible =
            record {
              room = λ l hl.
                  let low : l < P.limits = rw agree.limits hl in
                  rw (across_agree l a.numerator low, agree.capacity l low) at (ok.feasible.room l low);
            };
        bounded =
            record {
              at_least = λ c hc.
                  let low : c < P.flows = rw agree.flows hc in
                  rw (agree.minimum c low) at (ok.bounded.at_least c low);
              at_most = λ c hc.
                  let low : c < P.flows = rw agree.flows hc in
                  rw (agree.demand c low) at (ok.bounded.at_most c low);
            };
      }

  better_agree : (a z : Allocation) (f : ℕ) → f < P.flows → Better P a f z → Better Q a f z
  better_agree a z f hf better =
      record {
        allowed = allowed_agree z better.allowed;
        more = better.more;
        no_less = λ g hg other h.
            let low : g < P.flows = rw agree.flows hg in
            better.no_less g low other (rw (agree.weight f hf, agree.weight g low) h);
      }

pub fair_agree : {P Q : Problem} → Agree P Q → (a : Allocation) → Fair P a → Fair Q a
fair_agree agree a fair =
    record {
      allowed = allowed_agree agree a fair.allowed;
      unbeaten = λ f hf z better.
          fair.unbeaten f (rw agree.flows hf) z (better_agree (agree_sym agree) a z f hf better);
    }
