-- What it is for a contract to settle a call: document 01's section 'What the promises settle', said once for all of them.
use Rattle.std.specs.Prelude.{◌≡◌}

-- A contract asks something of the arguments a, and allows results z, each together with a state e in which the call may leave what
-- was lent to it. κ stands for the lifetimes of references. What a caller sees of an outcome is a number, a record or bytes (`seen`).
pub record Settles {K : Type 0} {D Z E A : K → Type 0} (asked : (κ : K) → D κ → Type 0)
    (allowed : (κ : K) → D κ → Z κ → E κ → Type 0) (seen : (κ : K) → Z κ → E κ → A κ)
    (definition : (κ : K) → D κ → A κ) : Type 0 where
  -- nothing is asked: the call can be made with any arguments
  pub total : (κ : K) (a : D κ) → asked κ a
  -- what is seen of an outcome that the contract allows is what the definition says
  pub defined : (κ : K) (a : D κ) (z : Z κ) (e : E κ) → allowed κ a z e → seen κ z e ≡ definition κ a
  -- so any two outcomes that it allows are the same
  pub same : (κ : K) (a : D κ) (z z' : Z κ) (e e' : E κ) → allowed κ a z e → allowed κ a z' e' → seen κ z e ≡ seen κ z' e'

-- A call that hands its text to a writer of the caller's. What the writer holds then is the writer's to say: two writers may make
-- two things of one text. What the contract says of every outcome that it allows, in the definition's text, is `told`.
pub record Tells {K : Type 0} {D Z E : K → Type 0} (asked : (κ : K) → D κ → Type 0) (allowed : (κ : K) → D κ → Z κ → E κ → Type 0)
    (told : (κ : K) → D κ → Z κ → E κ → Type 0) : Type 0 where
  pub total : (κ : K) (a : D κ) → asked κ a
  pub text : (κ : K) (a : D κ) (z : Z κ) (e : E κ) → allowed κ a z e → told κ a z e
