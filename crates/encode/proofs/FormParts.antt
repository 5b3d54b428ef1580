-- Writing the form part by part: N, the ports, the map, the records. Assumes nothing.
use Prim.Native.Nat.{ℕ}
use mathlib.Core.Path.{◌≡◌}
use mathlib.Core.List.{List, [], ◌∷◌}
use lib.ListN.{take}
use Rattle.basis.proofs.Arrays.{lent_within, lent_counted}
use Rattle.lit_words.specs.declared.Lit.{Lit}
use Rattle.channels.specs.Channels.{lit_at, lit_of}
use Rattle.ring.specs.declared.RingTable.{RingTable}
use Rattle.buffer.specs.Put.{Room, Put}
use Rattle.buffer.proofs.Chain.{Putting, start, first, then, done}
use Rattle.form.specs.Form.{map_bytes, map_width, records_bytes, form_of}
use Rattle.byte_numbers.specs.MapWords.{words_bytes}
use Rattle.byte_numbers.proofs.WordsWritten.{words_map}

-- the parts of the form, one after the other
module _ (t : RingTable) (lit : Lit) (e : lit ≡ lit_of t.channels) (k : ℕ) (n : k ≡ t.nodes) (l : List ℕ) (h : Room l 0 (form_of t)) where
  words_are : words_bytes lit ≡ map_bytes (lit_at t.channels) map_width 0
  words_are = rw e (words_map (lit_at t.channels))

  form_begun : Putting l 0 (form_of t) l 0 (t.nodes ∷ []) (take k t.ports ∷ words_bytes lit ∷ records_bytes t.channels ∷ [])
  unfolding form_of
  form_begun = start _ _ (rw (n, words_are)) h

  pub nodes_room_lem : Room l 0 (t.nodes ∷ [])
  nodes_room_lem = first form_begun

  module _ (l1 : List ℕ) (n1 : ℕ) (q1 : Put l 0 (t.nodes ∷ []) l1 n1) where
    pub ports_room : Room l1 n1 (take k t.ports)
    ports_room = first (then q1 form_begun)

    module _ (l2 : List ℕ) (n2 : ℕ) (q2 : Put l1 n1 (take k t.ports) l2 n2) where
      pub map_room : Room l2 n2 (words_bytes lit)
      map_room = first (then q2 (then q1 form_begun))

      module _ (l3 : List ℕ) (n3 : ℕ) (q3 : Put l2 n2 (words_bytes lit) l3 n3) where
        pub records_room : Room l3 n3 (records_bytes t.channels)
        records_room = first (then q3 (then q2 (then q1 form_begun)))

        pub form_put : (l4 : List ℕ) (n4 : ℕ) → Put l3 n3 (records_bytes t.channels) l4 n4 → Put l 0 (form_of t) l4 n4
        form_put l4 n4 q4 = done q4 (then q3 (then q2 (then q1 form_begun)))

pub ruleset form_rules = (lent_within, lent_counted, nodes_room_lem, ports_room, map_room, records_room, form_put)
