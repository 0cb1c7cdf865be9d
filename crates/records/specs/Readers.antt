-- What the readers of a part of a batch answer.
use Rattle.std.specs.Prelude.{◌≡◌, ℕ, ◌<◌, ◌≤◌, List, length, drop, Result, MatchResult}
use Rattle.std.specs.Borrow.{Bor}

-- A value that was read from the front of a part, and what follows its bytes, so many of them.
abbrev pub HandsOn : {Value : Type 0} → ℕ → Value → List ℕ → Value × Bor (List ℕ) → Type 0
HandsOn width value part read = (read.0 ≡ value) × (read.1.now ≡ drop width part)

-- What a reader of a part's first bytes answers, so many of them: their value and what follows them, or a fault where the
-- part has fewer.
abbrev pub TakesFirst : {Value E : Type 0} → ℕ → Value → List ℕ → Result (Value × Bor (List ℕ)) E → Type 0
TakesFirst width value part r = MatchResult r (λ read. (width ≤ length part) × HandsOn width value part read) (λ _. length part < width)
