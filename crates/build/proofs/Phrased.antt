-- An expression's phrases, told as a reader meets their sayings.
use Prim.Native.Nat.{ℕ, suc}
use Rattle.notation.specs.Phrases.{Sayings, Operand, leaf, variable, path, not, group, Chain, one, more, Expression, ended}
use Rattle.build.specs.Flow as Flow
use Rattle.build.specs.Flow.{Before, After}

mutual
  operand-due : {l m k : Sayings} (n : ℕ) → Operand l m → After n m k → Before n l k
  operand-due n (leaf f) a = Flow.leaf f a
  operand-due n (variable e) a = Flow.variable e a
  operand-due n (path e p) a = Flow.path e p a
  operand-due n (not e o) a = Flow.not e (operand-due n o a)
  operand-due n (group e c f) a = Flow.group e (chain-due (suc n) c (Flow.closing f a))

  chain-due : {l m k : Sayings} (n : ℕ) → Chain l m → After n m k → Before n l k
  chain-due n (one o) a = operand-due n o a
  chain-due n (more p o e c) a = operand-due n o (Flow.operator p e (chain-due n c a))

pub expression-due : {l k : Sayings} → Expression l k → Before 0 l k
expression-due (ended c e) = chain-due 0 c (Flow.ending e)
