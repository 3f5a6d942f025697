-- Words of one length in a run of bytes, each followed by its class.
use Rattle.std.specs.Prelude.{ℕ, zero, suc, cond, List, length, take, drop, nat_lt, slice_index}
use Rattle.plexil.specs.Lists.{Found, at, nowhere}
use Rattle.grammar.specs.Spelling.{Token}
use Rattle.grammar.specs.Leads.{same}
use Rattle.notation.specs.Classes.{literals, literal_from, a_name}

-- what follows t in the group, of which at most k words are looked at; the class of names where t is not there
unfoldable pub found_within : ℕ → List ℕ → Token → ℕ
found_within zero group t = a_name
found_within (suc k) group t =
    let later = found_within k (drop (suc (length t)) group) t in
    cond (nat_lt (length t) (length group)) (cond (same (take (length t) group) t) (slice_index group (length t)) later) a_name

unfoldable pub found_in : List ℕ → Token → ℕ
found_in group t = found_within (length group) group t

-- the class of a literal, and that of names for what is no literal
unfoldable pub number_or : Found → ℕ
number_or (at i) = i
number_or nowhere = a_name

unfoldable pub literal_class : Token → ℕ
literal_class t = number_or (literal_from 0 literals t)

-- opens every definition of this file
unfoldable pub opened : Unit {0}
unfolding found_within found_in number_or literal_class
opened = tt
