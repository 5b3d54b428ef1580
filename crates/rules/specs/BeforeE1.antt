-- 01, "The ring": the ring rules before document 02's request E1, with the sharing rule of then and all else as it is now. Assumes nothing.
-- What the law that tables saved before remain good means by "before".
use Rattle.std.specs.Prelude.{ℕ, Bool, List}
use Rattle.lightpath.specs.BeforeE1.{can_share_before_e1}
use Rattle.channels.specs.Channels.{Channels}
use Rattle.rules.specs.Rules.{rules_by}

abbrev pub ring_rules_before_e1 : ℕ → List ℕ → Channels → Bool
ring_rules_before_e1 N ks t = rules_by can_share_before_e1 N ks t
