-- What a draw order may mean, its law, and the orders.
use Rattle.std.specs.Prelude.{◌≡◌, ℕ, Bool, true, cond, not, ◌==◌, ◌≢◌, nat_lt}
use Rattle.draw_order.specs.Kinds.{insured}
use Rattle.draw_order.specs.declared.LetterFacts.{LetterFacts}

-- Whether the first of two letters goes before the second.
abbrev pub Order : Type 0
Order = LetterFacts → LetterFacts → Bool

-- Of two letters with different numbers exactly one goes before the other.
abbrev pub ExactlyOneFirst : Order → Type 0
ExactlyOneFirst before = (one other : LetterFacts) → (one.number ≢ other.number) → before one other ≡ not (before other one)

-- What goes before an earlier letter goes before the later one too.
abbrev pub CarriesOver : Order → Type 0
CarriesOver before = (one other third : LetterFacts) → before one other ≡ true → before other third ≡ true → before one third ≡ true

-- The smaller figure goes first; between equal figures another order decides.
abbrev pub smaller_first : (LetterFacts → ℕ) → Order → Order
smaller_first figure tie one other = cond (figure one == figure other) (tie one other) (nat_lt (figure one) (figure other))

-- The lower number goes first.
abbrev pub lower_number : Order
lower_number one other = nat_lt one.number other.number

-- The earlier last day goes first, and with one last day the lower number.
abbrev pub earlier_last_day : Order
earlier_last_day = smaller_first (λ letter. letter.last_day) lower_number

-- The smaller held sum goes first, and with equal sums the lower number.
abbrev pub smaller_held : Order
smaller_held = smaller_first (λ letter. letter.held) lower_number

-- Insurance policies go before bank letters; the rest is left to the order below.
abbrev pub insurance_first : Order → Order
insurance_first below = smaller_first (λ letter. cond (insured letter.kind) 0 1) below
