-- What finding ranks leaves as it was. Assumes nothing.
use Rattle.std.specs.Prelude.{◌≡◌, None}
use Rattle.resolver.specs.declared.tables.Core.{Core}

-- what finding ranks leaves as it was
pub record Same {C : Type 0} (k m : Core C) : Type 0 where
  pub limits : m.limits ≡ k.limits
  pub rung_limit : m.rung_limit ≡ k.rung_limit
  pub ration : m.ration ≡ k.ration
  pub rungs : m.rungs ≡ k.rungs
  pub closed : m.closed ≡ k.closed
  pub taken : m.taken ≡ k.taken
  pub counts : m.counts ≡ k.counts
  pub recent : m.recent ≡ k.recent

-- a resolver without a recent pose
abbrev pub settled : {C : Type 0} → Core C → Core C
settled k = record k { recent = None }
