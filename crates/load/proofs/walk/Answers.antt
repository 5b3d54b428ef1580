-- `load::walk` meets its contract: the loads of the links up to `link` are written, and those of the last are kept. Assumes nothing.
use borrow.Author.Rules.{rules}
use native.Mathlib.Omega.{arith}
use lib.ListN.{length-set}
use Rattle.load.proofs.Filled.{filling}
use Rattle.load.proofs.Running.{walking, running_next}
use Rattle.load.proofs.walk.Goals as goal

pub loop-link-init : goal.loop-link-init
loop-link-init c = search (rules, filling, walking)

pub overflow_add-node : goal.overflow_add-node
overflow_add-node c = omega arith

pub bounds-clockwise-node : goal.bounds-clockwise-node
bounds-clockwise-node c = search (rules, filling, walking)

pub overflow_add-load : goal.overflow_add-load
overflow_add-load c = search (rules, filling, walking)

pub overflow_sub-load : goal.overflow_sub-load
overflow_sub-load c = search (rules, filling, walking)

pub overflow_add-other : goal.overflow_add-other
overflow_add-other c = search (rules, filling, walking)

pub overflow_sub-other : goal.overflow_sub-other
overflow_sub-other c = search (rules, filling, walking)

pub bounds-clockwise-node-in-loop-link : goal.bounds-clockwise-node-in-loop-link
bounds-clockwise-node-in-loop-link c = omega arith

pub bounds-counterclockwise-node : goal.bounds-counterclockwise-node
bounds-counterclockwise-node c = omega arith

pub bounds-counterclockwise-node-in-loop-link : goal.bounds-counterclockwise-node-in-loop-link
bounds-counterclockwise-node-in-loop-link c = omega arith

pub overflow_mul-out : goal.overflow_mul-out
overflow_mul-out c = omega arith

pub bounds-out-link : goal.bounds-out-link
bounds-out-link c = search (rules, filling, walking)

pub overflow_mul-out-in-loop-link : goal.overflow_mul-out-in-loop-link
overflow_mul-out-in-loop-link c = omega arith

pub overflow_add-out : goal.overflow_add-out
overflow_add-out c = omega arith

pub bounds-out-link-in-loop-link : goal.bounds-out-link-in-loop-link
bounds-out-link-in-loop-link c = simp length-set (omega arith)

pub loop-link-preserved : goal.loop-link-preserved
loop-link-preserved c = (search (rules, filling, running_next), search (rules, running_next), search (rules, running_next))

pub returns : goal.returns
returns c = search (rules, filling, walking)
