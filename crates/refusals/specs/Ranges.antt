-- Ranges of figures.
use Rattle.std.specs.Prelude.{ℕ, Bool, ◌&&◌, nat_le}

-- A figure lies from the lowest to the highest that is allowed.
abbrev pub within : ℕ → ℕ → ℕ → Bool
within low high figure = nat_le low figure && nat_le figure high

-- The days that have a number end with 7,304, and the months with 239.
abbrev pub is_day : ℕ → Bool
is_day day = nat_le day 7304

abbrev pub is_month : ℕ → Bool
is_month month = nat_le month 239

-- Letters and claims are numbered from 1 to 9,999.
abbrev pub is_number : ℕ → Bool
is_number number = within 1 9999 number

-- A sum of money is 1 to 3,000,000,000 fen.
abbrev pub is_sum : ℕ → Bool
is_sum sum = within 1 3_000_000_000 sum

-- A volume that is traded or delivered is 1 to 3,750,000 MWh.
abbrev pub is_volume : ℕ → Bool
is_volume volume = within 1 3_750_000 volume
