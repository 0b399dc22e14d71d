-- Relations of runs that hold of each step, and stay through each way of putting runs together. What is shown here of such a relation holds of every task: the law of fuel, what is printed, and which names wait are three of them.
-- The left run has so many ticks and the right one may have more; the relation is counted by how many loops over generators stand round the text. A run one level deeper is owed only after a tick of its own.
use Rattle.std.proofs.Common.{◌≡◌, ◌≢◌, ℕ, zero, suc, ◌≤◌, List, length, Bool, true, false, if◌then◌else◌}
use Rattle.codon_base.specs.declared.object.Object.{Object}
use Rattle.codon_base.specs.declared.value.Value.{Value}
use Rattle.meaning_rules.specs.State.{Names, State, Stop, OutOfFuel, Flow}
use Rattle.meaning_rules.specs.Outcome.{Run, bind, pure, stop, tick, by_fuel, look, change_names, change_globals, change_levels, write, framed, generating, suspended}
use Rattle.meaning_rules.specs.Task.{Region, Consumer, Task, Rules}

abbrev pub Relation : Type 1
Relation = ℕ → (A : Type 0) → Run A → Run A → Type 0

pub record Closed (R : Relation) (rules : Rules) (limit more : ℕ) (low high : List Consumer → Task → Run Flow) : Type 1 where
  pub pures : (n : ℕ) (A : Type 0) (a : A) → R n A (pure a) (pure a)
  pub stops : (n : ℕ) (A : Type 0) (why : Stop) → R n A (stop why) (stop why)
  pub looks : (n : ℕ) (A : Type 0) (seen : State → A) → R n A (look seen) (look seen)
  pub changes_names : (n : ℕ) (change : Names → Names) → R n (Unit {0}) (change_names change) (change_names change)
  pub changes_globals : (n : ℕ) (change : Names → Names) → R n (Unit {0}) (change_globals change) (change_globals change)
  pub changes_levels : (n : ℕ) (change : List (List Object) → List (List Object)) → ((levels : List (List Object)) → length (change levels) ≡ length levels) → R n (Unit {0}) (change_levels change) (change_levels change)
  pub writes : (n : ℕ) (bytes : List ℕ) → R n (Unit {0}) (write bytes) (write bytes)
  pub ticks : (n : ℕ) → R n (Unit {0}) (tick limit) (tick more)
  pub fuels : (n : ℕ) (A : Type 0) (k l : ℕ → Run A) → ((a b : ℕ) → a ≤ b → (limit ≡ more → a ≡ b) → R n A (k a) (l b)) → R n A (by_fuel limit k) (by_fuel more l)
  pub binds : (n : ℕ) (A B : Type 0) (p q : Run A) (k l : A → Run B) → R n A p q → ((a : A) → R n B (k a) (l a)) → R n B (bind p k) (bind q l)
  pub frames : (n : ℕ) (A : Type 0) (names : Names) (p q : Run A) → R n A p q → R n A (framed names p) (framed names q)
  pub generates : (n : ℕ) (A : Type 0) (names : Names) (p q : Run A) → R (suc n) A p q → R n A (generating names p) (generating names q)
  pub suspends : (n : ℕ) (A : Type 0) (p q : Run A) → R n A p q → R (suc n) A (suspended p) (suspended q)
  pub regions : (n : ℕ) (region : Region) (p q : Run Flow) → R n Flow p q → R n Flow (rules.region region p) (rules.region region q)
  pub items : (n : ℕ) (region : Region) (v : Value) (p q : Run Flow) → R n Flow p q → R n Flow (rules.item region v p) (rules.item region v q)
  -- a loop that has no turn left, where the other may have one
  pub cuts : limit ≢ more → (n : ℕ) (A : Type 0) (p q : Run A) → R n A p q → R n A (stop OutOfFuel) q
  pub lifts : (n : ℕ) (A : Type 0) (p q : Run A) → R zero A p q → R n A p q
  -- the relation of runs that begin after a tick
  pub Ticked : Relation
  pub enters : (n : ℕ) (A : Type 0) (k l : Unit {0} → Run A) → ((u : Unit {0}) → Ticked n A (k u) (l u)) → R n A (bind (tick limit) k) (bind (tick more) l)
  pub binds_ticked : (n : ℕ) (A B : Type 0) (p q : Run A) (k l : A → Run B) → Ticked n A p q → ((a : A) → R n B (k a) (l a)) → Ticked n B (bind p k) (bind q l)
  pub frames_ticked : (n : ℕ) (A : Type 0) (names : Names) (p q : Run A) → Ticked n A p q → Ticked n A (framed names p) (framed names q)
  pub generates_ticked : (n : ℕ) (A : Type 0) (names : Names) (p q : Run A) → Ticked (suc n) A p q → Ticked n A (generating names p) (generating names q)
  pub lows : (consumers : List Consumer) (t : Task) → Ticked (length consumers) Flow (low consumers t) (high consumers t)

module _ {R : Relation} {rules : Rules} {limit more : ℕ} {low high : List Consumer → Task → Run Flow} (c : Closed R rules limit more low high) where
  pub chain : {n : ℕ} {A B : Type 0} {p q : Run A} {k l : A → Run B} → R n A p q → ((a : A) → R n B (k a) (l a)) → R n B (bind p k) (bind q l)
  chain first next = c.binds _ _ _ _ _ _ _ first next

  pub gives : {n : ℕ} {A : Type 0} (a : A) → R n A (pure a) (pure a)
  gives a = c.pures _ _ a

  pub pick : {n : ℕ} {A : Type 0} (t : Bool) {p q p' q' : Run A} → R n A p p' → R n A q q' → R n A (if t then p else q) (if t then p' else q')
  pick true x y = x
  pick false x y = y
