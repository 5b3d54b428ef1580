-- `inventory::put_slot` meets its contract. Assumes nothing.
use borrow.Author.Rules.{rules}
use Rattle.inventory.proofs.Places.{slot}
use Rattle.inventory.proofs.put_slot.Goals as goal

pub enum_told-1 : goal.enum_told-1
enum_told-1 c = search (rules, slot)

pub enum_known-slot : goal.enum_known-slot
enum_known-slot c = search (rules, slot)

pub put_circuit-requires : goal.put_circuit-requires
put_circuit-requires c = search (rules, slot)

pub enum_known-slot-in-Shared-1 : goal.enum_known-slot-in-Shared-1
enum_known-slot-in-Shared-1 c = search (rules, slot)

pub put_circuit-next-requires : goal.put_circuit-next-requires
put_circuit-next-requires c = search (rules, slot)

pub put_circuit-requires-in-Shared : goal.put_circuit-requires-in-Shared
put_circuit-requires-in-Shared c = search (rules, slot)

pub returns-in-Unlit : goal.returns-in-Unlit
returns-in-Unlit c = search (rules, slot)

pub shape_of-out-in-Alone : goal.shape_of-out-in-Alone
shape_of-out-in-Alone c = search (rules, slot)

pub returns-in-Alone : goal.returns-in-Alone
returns-in-Alone c = search (rules, slot)

pub shape_of-out-in-Shared : goal.shape_of-out-in-Shared
shape_of-out-in-Shared c = search (rules, slot)

pub returns-in-Shared : goal.returns-in-Shared
returns-in-Shared c = search (rules, slot)
