-- 02, E7: an entry of a roster, a circuit and its place, as two numbers of 64 bits. Assumes nothing. What the calls on a roster promise.
use Rattle.std.specs.Prelude.{ℕ, ◌+◌, ◌*◌, ◌/◌, ◌%◌, ◌^◌, Bool, ◌&&◌, ltb}
use Rattle.lightpath.specs.declared.Circuit.{Circuit}
use Rattle.channels.specs.declared.Standing.{Standing}

-- the key: the source node, then the number; so keys rise "by source node and then by number"
unfoldable pub key_of : Circuit → ℕ
key_of c = c.source * 2 ^ 32 + c.number

-- the rest: the account, the remark, the destination, the place
unfoldable pub rest_of : Standing → ℕ
rest_of m = m.circuit.account * 2 ^ 32 + m.circuit.remark * 2 ^ 16 + m.circuit.destination * 2 ^ 8 + m.place

-- and back
unfoldable pub entry_of : ℕ → ℕ → Standing
entry_of key rest = record {
  place = rest % 2 ^ 8;
  circuit = record {
    number = key % 2 ^ 32;
    source = key / 2 ^ 32 % 2 ^ 8;
    destination = rest / 2 ^ 8 % 2 ^ 8;
    remark = rest / 2 ^ 16 % 2 ^ 16;
    account = rest / 2 ^ 32;
  };
}

-- the rest of an entry with another place
unfoldable pub placed_at : ℕ → ℕ → ℕ
placed_at rest p = rest / 2 ^ 8 * 2 ^ 8 + p

-- where the row of a node begins: the keys of the node are not below it, and those of the nodes before it are
unfoldable pub row_key : ℕ → ℕ
row_key node = node * 2 ^ 32

-- what the type of a circuit says of its fields (the account stands highest in the rest and needs no bound)
unfoldable pub in_fields : Circuit → Bool
in_fields c = ltb c.number (2 ^ 32) && ltb c.source (2 ^ 8) && ltb c.destination (2 ^ 8) && ltb c.remark (2 ^ 16)
