-- Only the contract of a private function cites this: bytes doubled into digits.
use Rattle.std.specs.Prelude.{Option, Some, None, ◌*◌, ◌^◌, ltb}
use Rattle.lent.specs.Choice.{pick}
use Rattle.keyentry.specs.declared.units.Bytes.{Bytes}
use Rattle.keyentry.specs.declared.units.Digits.{Digits}

-- two digits for each byte, where a usize can count them
unfoldable pub doubled : Bytes → Option Digits
doubled size = pick (ltb (2 * size.0) (2 ^ 64)) (Some (record { 0 = 2 * size.0 })) None
