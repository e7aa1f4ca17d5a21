-- The version of the library (include/chizuregwo.h).
use Rattle.std.specs.Prelude.{ℕ}

-- 10,000 times the major, 100 times the minor and the patch number: 0.1.0
abbrev pub version : ℕ
version = 100
