-- `text::read_number` meets its contract. The loop's invariant: the bytes so far are digits, of the value, which is at most the most. Assumes nothing.
use borrow.Author.Rules.{rules}
use Rattle.std.proofs.Common.{◌≡◌, ◌+◌, ◌-◌, ◌*◌, ◌<◌, None, arith, get_or}
use Rattle.text.proofs.Reading.{reading}
use Rattle.text.proofs.read_number.Goals as goal

pub returns-then-is_empty : goal.returns-then-is_empty
returns-then-is_empty c = search (rules, reading)

pub loop-byte-init : goal.loop-byte-init
loop-byte-init c = search (rules, reading)

pub returns-then-not-is_ascii_digit : goal.returns-then-not-is_ascii_digit
returns-then-not-is_ascii_digit c = search (rules, reading)

pub returns-in_err-checked_mul : goal.returns-in_err-checked_mul
returns-in_err-checked_mul c =
    let none : c.from_residual.result ≡ None = c.from_residual.ensures in
    let wide : c.args.most < c.loop-byte.value * 10 + (get_or c.args.word.now c.loop-byte.byte-index 0 - 48) = omega (arith, c.in_err-checked_mul.ensures) in
    rw none (search (rules, reading))

pub returns-in_err-value : goal.returns-in_err-value
returns-in_err-value c =
    let none : c.from_residual-in_err-value.result ≡ None = c.from_residual-in_err-value.ensures in
    let wide : c.args.most < c.loop-byte.value * 10 + (get_or c.args.word.now c.loop-byte.byte-index 0 - 48) = omega (arith, c.in_err-value.ensures, c.in_ok-checked_mul.ensures) in
    rw none (search (rules, reading))

pub returns-then-most-value : goal.returns-then-most-value
returns-then-most-value c =
    let wide : c.args.most < c.loop-byte.value * 10 + (get_or c.args.word.now c.loop-byte.byte-index 0 - 48) = omega (arith, c.in_ok-value.ensures, c.in_ok-checked_mul.ensures) in
    search (rules, reading)

pub loop-byte-preserved : goal.loop-byte-preserved
loop-byte-preserved c =
    let value : c.in_ok-value.value ≡ c.loop-byte.value * 10 + (get_or c.args.word.now c.loop-byte.byte-index 0 - 48) = omega (arith, c.in_ok-value.ensures, c.in_ok-checked_mul.ensures) in
    rw value (search (rules, reading))

pub returns : goal.returns
returns c = search (rules, reading)
