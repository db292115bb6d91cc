-- Codes that were worked out by hand.
use Rattle.std.specs.Prelude.{◌≡◌, codes}
use Rattle.uca_numbers.specs.Numbers.{value, number_code, length_code}
use Rattle.uca_numbers.specs.Texts.{by_value}

pub record WorkedNumbers : Type 0 where
  pub seven : number_code (codes "7") ≡ codes "17"
  pub forty_two : number_code (codes "42") ≡ codes "242"
  -- leading zeros do not count, and one zero stays
  pub padded : number_code (codes "007") ≡ codes "17"
  pub nought : number_code (codes "000") ≡ codes "10"
  pub eight_digits : number_code (codes "12345678") ≡ codes "812345678"
  pub nine_digits : number_code (codes "123456789") ≡ codes "91123456789"
  pub ten_digits : number_code (codes "1234567890") ≡ codes "921234567890"
  -- the codes of long lengths
  pub sixteen : length_code 16 ≡ codes "98"
  pub seventeen : length_code 17 ≡ codes "991"
  pub three_hundred : length_code 300 ≡ codes "99999999999999999999999999999999999994"
  pub value_of_zeros : value (codes "0042") ≡ 42
  -- texts
  pub file : by_value (codes "file 10") ≡ codes "file 210"
  pub parts : by_value (codes "1.10") ≡ codes "11.210"
  pub at_both_ends : by_value (codes "7a08") ≡ codes "17a18"
  pub none : by_value (codes "a-b") ≡ codes "a-b"
