-- Codes that stand for the cases of an enum.
use Rattle.std.specs.Prelude.{◌≡◌, ℕ, ◌≢◌, Result, MatchResult}

-- What the reading of a code answers: the case that has this code, or an error where no case has it.
abbrev pub ReadsCode : {Case E : Type 0} → (Case → ℕ) → E → ℕ → Result Case E → Type 0
ReadsCode {Case} code_of error code r = MatchResult r (λ one. code_of one ≡ code) (λ e. ((one : Case) → code_of one ≢ code) × (e ≡ error))
