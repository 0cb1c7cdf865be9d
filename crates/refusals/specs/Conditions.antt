-- Conditions that are tried in order. The first that holds decides.
use Rattle.std.specs.Prelude.{◌≡◌, ℕ, ◌<◌, Bool, true, false, cond, List, [], ◌∷◌, length, Some, None, Option, Result, MatchOption, MatchResult}
use Rattle.std.specs.List.{AllWithin, HoldsAt}

-- Whether a condition holds, and what it gives if it does.
pub record Condition (X : Type 0) : Type 0 where
  pub holds : Bool
  pub answer : X

infix 68 ◌gives◌
abbrev pub ◌gives◌ : {X : Type 0} → Bool → X → Condition X
holds gives answer = record { holds = holds; answer = answer }

-- What the first condition that holds gives, and nothing where none holds.
abbrev pub first_given : {X : Type 0} → List (Condition X) → Option X
first_given [] = None
first_given (c ∷ cs) = cond c.holds (Some c.answer) (first_given cs)

-- The same in other words: of the conditions before one that holds and gives x none holds.
pub record First {X : Type 0} (cs : List (Condition X)) (x : X) : Type 0 where
  pub place : ℕ
  pub within : place < length cs
  pub decides : HoldsAt (λ c. (c.holds ≡ true) × (c.answer ≡ x)) cs place
  pub none_before : AllWithin (λ c. c.holds ≡ false) cs 0 place

abbrev pub NoneHolds : {X : Type 0} → List (Condition X) → Type 0
NoneHolds cs = AllWithin (λ c. c.holds ≡ false) cs 0 (length cs)

-- What is given is given by the first condition that holds, and nothing is given only where none holds.
abbrev pub FirstDecides : {X : Type 0} → List (Condition X) → Option X → Type 0
FirstDecides cs given = MatchOption given (NoneHolds cs) (First cs)

-- What a check of conditions answers: what the first that holds gives, or where none holds something of which a fact holds.
abbrev pub Checked : {X E : Type 0} → List (Condition E) → Result X E → (X → Type 0) → Type 0
Checked conditions r P = MatchResult r (λ x. (first_given conditions ≡ None) × P x) (λ e. first_given conditions ≡ Some e)

-- What a call owes that changes a state unless a condition holds. Where one holds, the state stays as it was.
abbrev pub CarriedOut : {X State E : Type 0} → List (Condition E) → State → State → Result X E → State → Type 0
CarriedOut conditions before changed r after = MatchResult r (λ _. (first_given conditions ≡ None) × (after ≡ changed)) (λ e. (first_given conditions ≡ Some e) × (after ≡ before))
