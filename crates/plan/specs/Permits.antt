-- "Any two replies it permits are proved equal", of a plan's readers: what each contract permits, which its `ensures` cites, and that it permits one.
use Rattle.std.specs.Prelude.{ℕ, ◌≡◌, Option}
use Rattle.std.specs.Borrow.{Bor}
use Rattle.plexil.specs.Image.{Image}
use Rattle.plan.specs.declared.Plan.{Plan}
use Rattle.plan.specs.declared.Opened.{Opened}
use Rattle.image.specs.declared.records.NodeRecord.{NodeRecord}
use Rattle.image.specs.declared.records.ExprRecord.{ExprRecord}
use Rattle.image.specs.declared.records.VarRecord.{VarRecord}
use Rattle.image.specs.declared.records.LookRecord.{LookRecord}
use Rattle.plan.specs.View.{opened_of, node_at_of, expression_at_of, variable_at_of, lookup_at_of}

abbrev pub OpenPermits : Bor Image → Opened → Type 0
OpenPermits image r = r ≡ opened_of image

abbrev pub NodePermits : Plan → ℕ → Option NodeRecord → Type 0
NodePermits plan i r = r ≡ node_at_of plan.image.now plan.counts.nodes i

abbrev pub ExpressionPermits : Plan → ℕ → Option ExprRecord → Type 0
ExpressionPermits plan e r = r ≡ expression_at_of plan.image.now plan.counts.exprs e

abbrev pub VariablePermits : Plan → ℕ → Option VarRecord → Type 0
VariablePermits plan v r = r ≡ variable_at_of plan.image.now plan.counts.vars v

abbrev pub LookupPermits : Plan → ℕ → Option LookRecord → Type 0
LookupPermits plan l r = r ≡ lookup_at_of plan.image.now plan.counts.looks l

-- ---- one reply
abbrev pub OneOpened : Type 0
OneOpened = (image : Bor Image) (r q : Opened) → OpenPermits image r → OpenPermits image q → r ≡ q

abbrev pub OneRecord : {A : Type 0} → (Plan → ℕ → A → Type 0) → Type 0
OneRecord {A} Permits = (plan : Plan) (i : ℕ) (r q : A) → Permits plan i r → Permits plan i q → r ≡ q
