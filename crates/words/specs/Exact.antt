-- The tokens that are read as a Real: decimals of at most 15 digits, and whole numbers that 15 digits can write.
use Rattle.std.specs.Prelude.{Bool, ◌&&◌, ◌||◌, nat_le}
use Rattle.grammar.specs.Spelling.{Token}
use Rattle.grammar.specs.Leads.{is_real, is_number, value_from}

unfoldable pub exact : Token → Bool
exact t = is_real t || (is_number t && nat_le (value_from 0 t) 999999999999999)
