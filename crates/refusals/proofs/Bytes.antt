-- The number of a refusal is a byte, and not 0. Assumes nothing.
use Prim.Native.Nat.{◌<◌}
use lib.Dec.{lit<}
use Rattle.refusals.specs.Refusal.{Refusal, NodeCount, PortCount, PortSum, OffRing, SameNode, NumberLive, NoTransmitter, NoReceiver, NotLive, NoWavelength, NoDirection, ShortList, ShortBuffer, BrokenRule, CutShort, BadField, TrailingBytes, BrokenForm, NoSpacing, NoStart, OffPlan, number_of}

pub number_byte : (r : Refusal) → (0 < number_of r) × (number_of r < 256)
number_byte NodeCount = (lit< tt, lit< tt)
number_byte PortCount = (lit< tt, lit< tt)
number_byte PortSum = (lit< tt, lit< tt)
number_byte OffRing = (lit< tt, lit< tt)
number_byte SameNode = (lit< tt, lit< tt)
number_byte NumberLive = (lit< tt, lit< tt)
number_byte NoTransmitter = (lit< tt, lit< tt)
number_byte NoReceiver = (lit< tt, lit< tt)
number_byte NotLive = (lit< tt, lit< tt)
number_byte NoWavelength = (lit< tt, lit< tt)
number_byte NoDirection = (lit< tt, lit< tt)
number_byte ShortList = (lit< tt, lit< tt)
number_byte ShortBuffer = (lit< tt, lit< tt)
number_byte BrokenRule = (lit< tt, lit< tt)
number_byte CutShort = (lit< tt, lit< tt)
number_byte BadField = (lit< tt, lit< tt)
number_byte TrailingBytes = (lit< tt, lit< tt)
number_byte BrokenForm = (lit< tt, lit< tt)
number_byte NoSpacing = (lit< tt, lit< tt)
number_byte NoStart = (lit< tt, lit< tt)
number_byte OffPlan = (lit< tt, lit< tt)
