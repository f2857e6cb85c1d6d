-- What reading a Value or an Argument answers, as definitions have it: the refusal's number, or 0, and its place; then what is said, all 0 where it
-- is refused.
use Rattle.std.specs.Prelude.{ℕ}
use Rattle.contents.specs.declared.RawValue.{RawValue}

-- how long the Value is, how many bytes 00 it begins with, and its fields
pub record Contents : Type 0 where
  pub refusal : ℕ
  pub place : ℕ
  pub length : ℕ
  pub zeros : ℕ
  pub raw : RawValue

-- how long the Argument is, how many values it has, and where the first starts
pub record Argument : Type 0 where
  pub refusal : ℕ
  pub place : ℕ
  pub length : ℕ
  pub values : ℕ
  pub first : ℕ
