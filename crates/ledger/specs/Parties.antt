-- Who may post what.
use Rattle.std.specs.Prelude.{ℕ, not, ◌||◌, List, [], ◌∷◌, ◌==◌}
use Rattle.refusals.specs.Conditions.{Condition, ◌gives◌}
use Rattle.refusals.specs.declared.Refusal.{Refusal}
use Rattle.refusals.specs.declared.Refusal.TheVariants.{UnknownParty, OtherPartysKind}
use Rattle.ledger.specs.declared.party.Party.{Party}
use Rattle.ledger.specs.declared.party.Party.TheVariants.{Centre, Grid}

-- The number of each party.
abbrev pub party_code : Party → ℕ
party_code Centre = 1
party_code Grid = 2

-- The first two conditions of whatever is this owner's to post.
abbrev pub party_conditions : Party → ℕ → List (Condition Refusal)
party_conditions owner party =
    not (party == party_code Centre || party == party_code Grid) gives UnknownParty
    ∷ not (party == party_code owner) gives OtherPartysKind
    ∷ []
