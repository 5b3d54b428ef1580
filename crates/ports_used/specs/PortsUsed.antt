-- 01, "The ring": the ports in use, and free ports. Assumes nothing. What `sent_at` and `received_at` promise, and what the
-- ring rules and the refusals say of ports in use.
use Rattle.std.specs.Prelude.{ℕ, Bool, List, ltb}
use Rattle.basis.specs.Count.{tally}
use Rattle.lightpath.specs.declared.Circuit.{Circuit}
use Rattle.channels.specs.Channels.{Channels, circuits}
use Rattle.ports.specs.Ports.{ports_at}

-- how many circuits node i sends, and how many it receives
abbrev pub sends : ℕ → List Circuit → ℕ
sends i cs = tally (λ c. c.source) i cs

abbrev pub receives : ℕ → List Circuit → ℕ
receives i cs = tally (λ c. c.destination) i cs

-- node i has a free transmitter when fewer than k_i circuits of the table have it as source
abbrev pub free_transmitter : List ℕ → Channels → ℕ → Bool
free_transmitter ks t i = ltb (sends i (circuits t)) (ports_at ks i)

-- and a free receiver when fewer than k_i have it as destination
abbrev pub free_receiver : List ℕ → Channels → ℕ → Bool
free_receiver ks t i = ltb (receives i (circuits t)) (ports_at ks i)
