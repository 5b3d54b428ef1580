-- What the reader has of a form after its ports, and after its map. Assumes nothing. Serves proofs inside only.
use Rattle.std.specs.Prelude.{ℕ, ◌+◌, ◌≤◌, ◌≡◌, List, length, drop, Result, Ok, Err}
use Rattle.basis.specs.Choice.{pick}
use Rattle.limits.specs.Limits.{place_count}
use Rattle.lit_words.specs.declared.Lit.{Lit}
use Rattle.lit_words.specs.Lit.{lit_bit}
use Rattle.refusals.specs.declared.Refusal.{Refusal}
use Rattle.refusals.specs.declared.Refusal.TheVariants.{BrokenForm}
use Rattle.ring.specs.Table.{meets_rules, blank_table, fresh_table}
use Rattle.ring.specs.declared.RingTable.{RingTable}
use Rattle.ring.specs.declared.Answered.{Answered}
use Rattle.form.specs.Form.{map_width}
use Rattle.form.specs.Reader.{Field, got, fault, and_then, ◌>>◌, end}
use Rattle.form.specs.Reading.{read_ports, read_records, checked_by, read_table}

-- the ring of N nodes that has the ports read
abbrev pub ring_by : Field (List ℕ) → Result RingTable Refusal
ring_by (got ks s) = Ok (fresh_table (length ks) ks)
ring_by (fault r) = Err r

-- a table as it was read, if it meets the ring rules
unfoldable pub judged_table : RingTable → Result RingTable Refusal
judged_table t = pick (meets_rules t) (Ok t) (Err BrokenForm)

-- what is read of a whole form, and the answer by it: a refused reading hands back the blank table
abbrev pub value_of : Field RingTable → Result RingTable Refusal
value_of (got t s) = Ok t
value_of (fault r) = Err r

abbrev pub answered : Result RingTable Refusal → Answered
answered (Ok t) = record { table = t; verdict = Ok tt }
answered (Err r) = record { table = blank_table; verdict = Err r }

-- the form b begins with the ports of the ring t
pub record Ported (b : List ℕ) (t : RingTable) : Type 0 where
  pub ports : List ℕ
  pub read : read_ports b ≡ got ports (drop (1 + t.nodes) b)
  pub within : 1 + t.nodes ≤ length b
  pub table : t ≡ fresh_table (length ports) ports

-- and then a map with the words `lit`, no bit of it at 2 × W or above
pub record Mapped (b : List ℕ) (t : RingTable) (lit : Lit) : Type 0 where
  pub ports : List ℕ
  pub read : read_table b ≡ and_then (read_records (lit_bit lit) place_count 0 (drop (1 + map_width + t.nodes) b)) (λ chs. do end; checked_by meets_rules ports chs)
  pub within : 1 + map_width + t.nodes ≤ length b
  pub table : t ≡ fresh_table (length ports) ports
