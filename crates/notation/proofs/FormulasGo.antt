-- The words of every expression follow the rows of an expression.
use mathlib.Core.Path.{refl}
use mathlib.Core.List.Memᴰ
use mathlib.Core.List.{List, [], ◌∷◌}
use Rattle.grammar.specs.Spelling as Spelling
use Rattle.grammar.specs.Leads as Leads
use Rattle.grammar.specs.Leads.{name}
use Rattle.grammar.specs.Table.{Item, sort, pick}
use Rattle.notation.specs.Sayings.{boolean, integer, float, mentions, reads, operates, closes, ends}
use Rattle.notation.specs.Rows.{Close, semicolon, bracket, Sort, operand, operator, after_name, lookup_used, ◌↣◌says◌}
use Rattle.notation.specs.Rows as Table
use Rattle.notation.specs.Draft.{Binary, or, and, eq, lt, le, add, sub, mul}
use Rattle.notation.specs.Abstract.{Expr, FineExpr}
use Rattle.notation.specs.Writing.{saying, operator_of, operator_sign, expr_words}
use Rattle.notation.proofs.Goes.{Goes, stop, step, goes-append, by_row}
use Rattle.notation.proofs.OperandsGo.{After, constant-goes, parts-go, question-goes, is_operator, is_name, first}

-- ---- operators and ends
pub ends-go : (x : Sort) (s : List (Item Sort)) → After semicolon x → Goes (sort x ∷ s) (saying ends ";" ∷ []) s
unfolding Table.opened Spelling.opened Leads.opened pick
ends-go x s is_operator = step _ refl refl stop
ends-go x s is_name = step _ refl refl stop

closes-go : (x : Sort) (s : List (Item Sort)) → After bracket x → Goes (sort x ∷ s) (saying closes ")" ∷ []) s
unfolding Table.opened Spelling.opened Leads.opened pick
closes-go x s is_operator = step _ refl refl stop
closes-go x s is_name = step _ refl refl stop

operator-goes : (o : Binary) (x : Sort) (s : List (Item Sort)) → After bracket x → Goes (sort x ∷ s) (saying (operates (operator_of o)) (operator_sign o) ∷ []) (sort (operand bracket) ∷ s)
unfolding Table.opened Spelling.opened Leads.opened pick operator_of operator_sign
operator-goes or x s is_operator = step _ refl refl stop
operator-goes and x s is_operator = step _ refl refl stop
operator-goes eq x s is_operator = step _ refl refl stop
operator-goes lt x s is_operator = step _ refl refl stop
operator-goes le x s is_operator = step _ refl refl stop
operator-goes add x s is_operator = step _ refl refl stop
operator-goes sub x s is_operator = step _ refl refl stop
operator-goes mul x s is_operator = step _ refl refl stop
operator-goes or x s is_name = step _ refl refl stop
operator-goes and x s is_name = step _ refl refl stop
operator-goes eq x s is_name = step _ refl refl stop
operator-goes lt x s is_name = step _ refl refl stop
operator-goes le x s is_name = step _ refl refl stop
operator-goes add x s is_name = step _ refl refl stop
operator-goes sub x s is_name = step _ refl refl stop
operator-goes mul x s is_name = step _ refl refl stop

-- ---- expressions
pub expr-goes : (e : Expr) (c : Close) (s : List (Item Sort)) → FineExpr e → (x : Sort) × After c x × Goes (sort (operand c) ∷ s) (expr_words e) (sort x ∷ s)
unfolding Table.opened Spelling.opened Leads.opened pick expr_words
expr-goes (Expr.constant k w) c s h = (operator c, is_operator, constant-goes k w c s h)
expr-goes (Expr.unknown boolean) c s h = (operator c, is_operator, step _ refl refl (step _ refl refl stop))
expr-goes (Expr.unknown integer) c s h = (operator c, is_operator, step _ refl refl (step _ refl refl stop))
expr-goes (Expr.unknown float) c s h = (operator c, is_operator, step _ refl refl (step _ refl refl stop))
expr-goes (Expr.variable x) c s h = (
  after_name c,
  is_name,
  by_row (operand c) (name ↣ sort (after_name c) ∷ [] says mentions) x (Memᴰ.tail (Memᴰ.tail (Memᴰ.head refl))) h stop,
)
expr-goes (Expr.lookup x) c s h = (
  operator c,
  is_operator,
  step _ refl refl (step _ refl refl (by_row lookup_used (name ↣ [] says reads) x (Memᴰ.head refl) h (step _ refl refl stop))),
)
expr-goes (Expr.asks w x xs k) c s h =
    let p = parts-go xs c (after_name c) s first h.1 in (
      operator c,
      is_operator,
      by_row (operand c) (name ↣ sort (after_name c) ∷ [] says mentions) x (Memᴰ.tail (Memᴰ.tail (Memᴰ.head refl))) h.0
          (goes-append p.2 (question-goes w k c p.0 s p.1 h.2)),
    )
expr-goes (Expr.not e) c s h =
    let p = expr-goes e bracket (sort (operator c) ∷ s) h in
    (operator c, is_operator, step _ refl refl (step _ refl refl (goes-append p.2 (closes-go p.0 (sort (operator c) ∷ s) p.1))))
expr-goes (Expr.both o a b) c s h =
    let p = expr-goes a bracket (sort (operator c) ∷ s) h.0 in
    let q = expr-goes b bracket (sort (operator c) ∷ s) h.1 in
    (operator c, is_operator, step _ refl refl (goes-append p.2 (goes-append (operator-goes o p.0 (sort (operator c) ∷ s) p.1) (goes-append q.2 (closes-go q.0 (sort (operator c) ∷ s) q.1)))))
