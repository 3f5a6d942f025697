-- A condition that is given, and an assigned value, name an entry: the table tells its value.
use Prim.Native.Nat.{ℕ, ◌<◌}
use mathlib.Core.Path.{◌≡◌, sym, ap, ◌∙◌}
use mathlib.Core.Bool.{Bool, true, false}
use mathlib.Core.List.{List}
use lib.Dec.{eqb}
use borrow.Author.Tests.{ne_eqb}
use Rattle.plexil.specs.declared.Worked.{Worked}
use Rattle.plexil.specs.declared.State.{State}
use Rattle.plexil.specs.declared.Condition.{Condition}
use Rattle.plexil.specs.Values.{encode}
use Rattle.plexil.specs.Image.{Image, default, node_count, expr_count, condition_field, value_field}
use Rattle.plexil.specs.Places.{seen}
use Rattle.plexil.specs.Records.{is_writer}
use Rattle.plexil.specs.Micro.{written}
use Rattle.plexil.specs.Promises.{IsAdmitted}
use Rattle.plexil.proofs.ListLaws.{if-false}
use Rattle.plexil.proofs.Admitted.{good-node}
use Rattle.plexil.proofs.GoodNode.{given_below, value-below}
use Rattle.evaluate.specs.Condition.{condition_or}
use Rattle.answers.specs.Table.{told, IsTable}
use Rattle.answers.proofs.Filling.{table-tells}

pub given-there : (p : Image) → IsAdmitted p → (i : ℕ) → i < node_count p → (c : Condition) → eqb (condition_field p i c) default ≡ false → condition_field p i c < expr_count p
given-there p a i b = given_below p i (good-node p a i b)

module _ (p : Image) (s : State) (tags bits : List ℕ) (t : IsTable p s tags bits) (i : ℕ) (b : i < node_count p) where
  -- a condition that is given, from what the table tells of its entry
  pub from-table : (c : Condition) (normal : Bool) {e : ℕ} {x : Worked} → e ≡ condition_field p i c → (e ≡ 65535 → ⊥) → x ≡ told tags bits e
      → x ≡ condition_or p (seen s) i c normal
  unfolding condition_or
  from-table c normal h n ex =
      let given : eqb (condition_field p i c) default ≡ false = ne_eqb _ 65535 (λ q. n (h ∙ q)) in
      ex ∙ (ap (told tags bits) h ∙ (table-tells p s tags bits t _ (given-there p t.admitted i b c given) ∙ sym (if-false _ _ _ given)))

  -- what a writer writes is the cell of what the table tells of its value's entry
  pub written-tells : is_writer p i ≡ true → {e : ℕ} → e ≡ value_field p i → encode (told tags bits e) ≡ written p s i
  unfolding is_writer written
  written-tells w h = ap (λ (k : ℕ). encode (told tags bits k)) h ∙ ap encode (table-tells p s tags bits t _ (value-below p i (good-node p t.admitted i b) w))
