-- The equations of the walks over bodies, one for each form of a statement.
use Rattle.std.proofs.Common.{◌≡◌, Bool, ◌||◌, List, [], ◌∷◌, ◌++◌, map, Option, refl, sym, ap, ◌∙◌}
use Rattle.std.specs.List.{flat_map, list_any}
use Rattle.std.proofs.lemmas.List.{append-nil, append_assoc, map-append}
use Rattle.source_trees.specs.declared.node.Node.{Node}
use Rattle.source_trees.specs.declared.node.Name.{Name}
use Rattle.source_trees.specs.declared.operator.BinaryOp.{BinaryOp}
use Rattle.source_trees.specs.declared.expression.Expr.{Expr}
use Rattle.source_trees.specs.declared.item.Annotation.{Annotation}
use Rattle.source_trees.specs.declared.pipeline.Printed.{Printed}
use Rattle.source_trees.specs.declared.pipeline.Stage.{Stage}
use Rattle.source_trees.specs.declared.statement.Target.{Target}
use Rattle.source_trees.specs.declared.statement.Targets.{Targets}
use Rattle.source_trees.specs.declared.statement.ParOptions.{ParOptions}
use Rattle.source_trees.specs.declared.statement.Stmt.{Stmt, Stmt-F}
use Rattle.source_trees.specs.declared.statement.Stmt.TheFolds.{fold-Arm, fold-For, fold-roll-Stmt, fold_out-Arm, fold_out-For}
use Rattle.source_trees.specs.declared.statement.Stmt.TheVariants as stmt
use Rattle.source_trees.specs.declared.statement.Arm.{Arm, out-Arm}
use Rattle.source_trees.specs.declared.statement.For.{For, out-For}
use Rattle.meaning_rules.specs.State.{Spelling}
use Rattle.meaning_rules.specs.Bodies.{annotated_name, assigned_by, assigned_step, assigned_in_arm, assigned_in_loop, has_some, some_step, some_in_arm, some_in_loop}
use Rattle.source_trees.specs.Names.{loop_names, target_names, targets_names}
use Rattle.plain_interpreter.specs.Walked.{assigned_arm, assigned_for, some_arm, some_for}

pub flat_map_map : {X Y A : Type 0} (f : X → Y) (g : Y → List A) (xs : List X) → flat_map g (map f xs) ≡ flat_map (λ x. g (f x)) xs
flat_map_map f g [] = refl
flat_map_map f g (x ∷ xs) = ap (λ l. g (f x) ++ l) (flat_map_map f g xs)

any_map : {X : Type 0} (f : X → Bool) (xs : List X) → list_any (λ b. b) (map f xs) ≡ list_any f xs
any_map f [] = refl
any_map f (x ∷ xs) = ap (λ b. f x || b) (any_map f xs)

pub flat_map_same : {X A : Type 0} (f g : X → List A) → ((x : X) → f x ≡ g x) → (xs : List X) → flat_map f xs ≡ flat_map g xs
flat_map_same f g e [] = refl
flat_map_same f g e (x ∷ xs) = ap (λ l. l ++ flat_map f xs) (e x) ∙ ap (λ l. g x ++ l) (flat_map_same f g e xs)

any_same : {X : Type 0} (f g : X → Bool) → ((x : X) → f x ≡ g x) → (xs : List X) → list_any f xs ≡ list_any g xs
any_same f g e [] = refl
any_same f g e (x ∷ xs) = ap (λ b. b || list_any f xs) (e x) ∙ ap (λ b. g x || b) (any_same f g e xs)

module _ (p : List Spelling → List Spelling) where
  abbrev L : Type 0
  L = List Spelling

  abbrev arms : Arm → L
  arms = fold-Arm L L L (assigned_step p) (assigned_in_arm p) (assigned_in_loop p)

  abbrev loops : For → L
  loops = fold-For L L L (assigned_step p) (assigned_in_arm p) (assigned_in_loop p)

  arm_is : (arm : Arm) → arms arm ≡ assigned_arm p arm
  unfolding assigned_by
  arm_is arm = fold_out-Arm L L L (assigned_step p) (assigned_in_arm p) (assigned_in_loop p) arm ∙ flat_map_map (assigned_by p) (λ l. l) (out-Arm arm).body

  loop_is : (l : For) → loops l ≡ assigned_for p l
  unfolding assigned_by
  loop_is l = fold_out-For L L L (assigned_step p) (assigned_in_arm p) (assigned_in_loop p) l ∙ ap (λ r. loop_names (out-For l).names ++ r) (flat_map_map (assigned_by p) (λ l. l) (out-For l).body)

  body_is : (body : List Stmt) → flat_map (λ l. l) (map (assigned_by p) body) ≡ flat_map (assigned_by p) body
  body_is body = flat_map_map (assigned_by p) (λ l. l) body

  arms_are : (all : List Arm) → flat_map (λ l. l) (map arms all) ≡ flat_map (assigned_arm p) all
  arms_are all = flat_map_map arms (λ l. l) all ∙ flat_map_same arms (assigned_arm p) arm_is all

  pub assigned_Pass : (n : Node) → assigned_by p (stmt.Pass n) ≡ []
  unfolding assigned_by
  assigned_Pass n = ap (assigned_by p) (sym (stmt.rolls-Pass n)) ∙ fold-roll-Stmt L L L (assigned_step p) (assigned_in_arm p) (assigned_in_loop p) (Stmt-F.Pass n)

  pub assigned_Break : (n : Node) → assigned_by p (stmt.Break n) ≡ []
  unfolding assigned_by
  assigned_Break n = ap (assigned_by p) (sym (stmt.rolls-Break n)) ∙ fold-roll-Stmt L L L (assigned_step p) (assigned_in_arm p) (assigned_in_loop p) (Stmt-F.Break n)

  pub assigned_Continue : (n : Node) → assigned_by p (stmt.Continue n) ≡ []
  unfolding assigned_by
  assigned_Continue n = ap (assigned_by p) (sym (stmt.rolls-Continue n)) ∙ fold-roll-Stmt L L L (assigned_step p) (assigned_in_arm p) (assigned_in_loop p) (Stmt-F.Continue n)

  pub assigned_Return : (n : Node) (value : Option Expr) → assigned_by p (stmt.Return n value) ≡ []
  unfolding assigned_by
  assigned_Return n value = ap (assigned_by p) (sym (stmt.rolls-Return n value)) ∙ fold-roll-Stmt L L L (assigned_step p) (assigned_in_arm p) (assigned_in_loop p) (Stmt-F.Return n value)

  pub assigned_Yield : (n : Node) (value : Expr) → assigned_by p (stmt.Yield n value) ≡ []
  unfolding assigned_by
  assigned_Yield n value = ap (assigned_by p) (sym (stmt.rolls-Yield n value)) ∙ fold-roll-Stmt L L L (assigned_step p) (assigned_in_arm p) (assigned_in_loop p) (Stmt-F.Yield n value)

  pub assigned_Raise : (n : Node) (name : Name) (text : Option Expr) → assigned_by p (stmt.Raise n name text) ≡ []
  unfolding assigned_by
  assigned_Raise n name text = ap (assigned_by p) (sym (stmt.rolls-Raise n name text)) ∙ fold-roll-Stmt L L L (assigned_step p) (assigned_in_arm p) (assigned_in_loop p) (Stmt-F.Raise n name text)

  pub assigned_Assert : (n : Node) (condition : Expr) (text : Option Expr) → assigned_by p (stmt.Assert n condition text) ≡ []
  unfolding assigned_by
  assigned_Assert n condition text = ap (assigned_by p) (sym (stmt.rolls-Assert n condition text)) ∙ fold-roll-Stmt L L L (assigned_step p) (assigned_in_arm p) (assigned_in_loop p) (Stmt-F.Assert n condition text)

  pub assigned_Annotated : (n : Node) (name : Name) (annotation : Annotation) (value : Option Expr) → assigned_by p (stmt.Annotated n name annotation value) ≡ annotated_name name value
  unfolding assigned_by
  assigned_Annotated n name annotation value = ap (assigned_by p) (sym (stmt.rolls-Annotated n name annotation value)) ∙ fold-roll-Stmt L L L (assigned_step p) (assigned_in_arm p) (assigned_in_loop p) (Stmt-F.Annotated n name annotation value)

  pub assigned_Assign : (n : Node) (written : Targets) (value : Expr) → assigned_by p (stmt.Assign n written value) ≡ targets_names written
  unfolding assigned_by
  assigned_Assign n written value = ap (assigned_by p) (sym (stmt.rolls-Assign n written value)) ∙ fold-roll-Stmt L L L (assigned_step p) (assigned_in_arm p) (assigned_in_loop p) (Stmt-F.Assign n written value)

  pub assigned_Update : (n : Node) (written : Target) (op : BinaryOp) (value : Expr) → assigned_by p (stmt.Update n written op value) ≡ target_names written
  unfolding assigned_by
  assigned_Update n written op value = ap (assigned_by p) (sym (stmt.rolls-Update n written op value)) ∙ fold-roll-Stmt L L L (assigned_step p) (assigned_in_arm p) (assigned_in_loop p) (Stmt-F.Update n written op value)

  pub assigned_Evaluate : (n : Node) (value : Expr) → assigned_by p (stmt.Evaluate n value) ≡ []
  unfolding assigned_by
  assigned_Evaluate n value = ap (assigned_by p) (sym (stmt.rolls-Evaluate n value)) ∙ fold-roll-Stmt L L L (assigned_step p) (assigned_in_arm p) (assigned_in_loop p) (Stmt-F.Evaluate n value)

  pub assigned_Print : (n : Node) (printed : Printed) → assigned_by p (stmt.Print n printed) ≡ []
  unfolding assigned_by
  assigned_Print n printed = ap (assigned_by p) (sym (stmt.rolls-Print n printed)) ∙ fold-roll-Stmt L L L (assigned_step p) (assigned_in_arm p) (assigned_in_loop p) (Stmt-F.Print n printed)

  pub assigned_Pipeline : (n : Node) (head : Expr) (stages : List Stage) → assigned_by p (stmt.Pipeline n head stages) ≡ []
  unfolding assigned_by
  assigned_Pipeline n head stages = ap (assigned_by p) (sym (stmt.rolls-Pipeline n head stages)) ∙ fold-roll-Stmt L L L (assigned_step p) (assigned_in_arm p) (assigned_in_loop p) (Stmt-F.Pipeline n head stages)

  pub assigned_If : (n : Node) (arms' : List Arm) (otherwise : List Stmt) → assigned_by p (stmt.If n arms' otherwise) ≡ flat_map (assigned_arm p) arms' ++ flat_map (assigned_by p) otherwise
  unfolding assigned_by
  assigned_If n arms' otherwise = ap (assigned_by p) (sym (stmt.rolls-If n arms' otherwise)) ∙ fold-roll-Stmt L L L (assigned_step p) (assigned_in_arm p) (assigned_in_loop p) (Stmt-F.If n arms' otherwise) ∙ ap (λ l. l ++ flat_map (λ l. l) (map (assigned_by p) otherwise)) (arms_are arms') ∙ ap (λ l. flat_map (assigned_arm p) arms' ++ l) (body_is otherwise)

  pub assigned_While : (n : Node) (condition : Expr) (body : List Stmt) → assigned_by p (stmt.While n condition body) ≡ flat_map (assigned_by p) body
  unfolding assigned_by
  assigned_While n condition body = ap (assigned_by p) (sym (stmt.rolls-While n condition body)) ∙ fold-roll-Stmt L L L (assigned_step p) (assigned_in_arm p) (assigned_in_loop p) (Stmt-F.While n condition body) ∙ body_is body

  pub assigned_For : (l : For) → assigned_by p (stmt.For l) ≡ assigned_for p l
  unfolding assigned_by
  assigned_For l = ap (assigned_by p) (sym (stmt.rolls-For l)) ∙ fold-roll-Stmt L L L (assigned_step p) (assigned_in_arm p) (assigned_in_loop p) (Stmt-F.For l) ∙ loop_is l

  pub assigned_Par : (n : Node) (settings : ParOptions) (l : For) → assigned_by p (stmt.Par n settings l) ≡ p (assigned_for p l)
  unfolding assigned_by
  assigned_Par n settings l = ap (assigned_by p) (sym (stmt.rolls-Par n settings l)) ∙ fold-roll-Stmt L L L (assigned_step p) (assigned_in_arm p) (assigned_in_loop p) (Stmt-F.Par n settings l) ∙ ap p (loop_is l)

module _ (is : Stmt-F Bool Bool Bool → Bool) where
  abbrev some_arms : Arm → Bool
  some_arms = fold-Arm Bool Bool Bool (some_step is) (some_in_arm is) (some_in_loop is)

  abbrev some_loops : For → Bool
  some_loops = fold-For Bool Bool Bool (some_step is) (some_in_arm is) (some_in_loop is)

  some_arm_is : (arm : Arm) → some_arms arm ≡ some_arm is arm
  unfolding has_some
  some_arm_is arm = fold_out-Arm Bool Bool Bool (some_step is) (some_in_arm is) (some_in_loop is) arm ∙ any_map (has_some is) (out-Arm arm).body

  some_loop_is : (l : For) → some_loops l ≡ some_for is l
  unfolding has_some
  some_loop_is l = fold_out-For Bool Bool Bool (some_step is) (some_in_arm is) (some_in_loop is) l ∙ any_map (has_some is) (out-For l).body

  some_arms_are : (all : List Arm) → list_any (λ b. b) (map some_arms all) ≡ list_any (some_arm is) all
  some_arms_are all = any_map some_arms all ∙ any_same some_arms (some_arm is) some_arm_is all

  pub some_Pass : (n : Node) → has_some is (stmt.Pass n) ≡ is (Stmt-F.Pass n)
  unfolding has_some
  some_Pass n = ap (has_some is) (sym (stmt.rolls-Pass n)) ∙ fold-roll-Stmt Bool Bool Bool (some_step is) (some_in_arm is) (some_in_loop is) (Stmt-F.Pass n)

  pub some_Break : (n : Node) → has_some is (stmt.Break n) ≡ is (Stmt-F.Break n)
  unfolding has_some
  some_Break n = ap (has_some is) (sym (stmt.rolls-Break n)) ∙ fold-roll-Stmt Bool Bool Bool (some_step is) (some_in_arm is) (some_in_loop is) (Stmt-F.Break n)

  pub some_Continue : (n : Node) → has_some is (stmt.Continue n) ≡ is (Stmt-F.Continue n)
  unfolding has_some
  some_Continue n = ap (has_some is) (sym (stmt.rolls-Continue n)) ∙ fold-roll-Stmt Bool Bool Bool (some_step is) (some_in_arm is) (some_in_loop is) (Stmt-F.Continue n)

  pub some_Return : (n : Node) (value : Option Expr) → has_some is (stmt.Return n value) ≡ is (Stmt-F.Return n value)
  unfolding has_some
  some_Return n value = ap (has_some is) (sym (stmt.rolls-Return n value)) ∙ fold-roll-Stmt Bool Bool Bool (some_step is) (some_in_arm is) (some_in_loop is) (Stmt-F.Return n value)

  pub some_Yield : (n : Node) (value : Expr) → has_some is (stmt.Yield n value) ≡ is (Stmt-F.Yield n value)
  unfolding has_some
  some_Yield n value = ap (has_some is) (sym (stmt.rolls-Yield n value)) ∙ fold-roll-Stmt Bool Bool Bool (some_step is) (some_in_arm is) (some_in_loop is) (Stmt-F.Yield n value)

  pub some_Raise : (n : Node) (name : Name) (text : Option Expr) → has_some is (stmt.Raise n name text) ≡ is (Stmt-F.Raise n name text)
  unfolding has_some
  some_Raise n name text = ap (has_some is) (sym (stmt.rolls-Raise n name text)) ∙ fold-roll-Stmt Bool Bool Bool (some_step is) (some_in_arm is) (some_in_loop is) (Stmt-F.Raise n name text)

  pub some_Assert : (n : Node) (condition : Expr) (text : Option Expr) → has_some is (stmt.Assert n condition text) ≡ is (Stmt-F.Assert n condition text)
  unfolding has_some
  some_Assert n condition text = ap (has_some is) (sym (stmt.rolls-Assert n condition text)) ∙ fold-roll-Stmt Bool Bool Bool (some_step is) (some_in_arm is) (some_in_loop is) (Stmt-F.Assert n condition text)

  pub some_Annotated : (n : Node) (name : Name) (annotation : Annotation) (value : Option Expr) → has_some is (stmt.Annotated n name annotation value) ≡ is (Stmt-F.Annotated n name annotation value)
  unfolding has_some
  some_Annotated n name annotation value = ap (has_some is) (sym (stmt.rolls-Annotated n name annotation value)) ∙ fold-roll-Stmt Bool Bool Bool (some_step is) (some_in_arm is) (some_in_loop is) (Stmt-F.Annotated n name annotation value)

  pub some_Assign : (n : Node) (written : Targets) (value : Expr) → has_some is (stmt.Assign n written value) ≡ is (Stmt-F.Assign n written value)
  unfolding has_some
  some_Assign n written value = ap (has_some is) (sym (stmt.rolls-Assign n written value)) ∙ fold-roll-Stmt Bool Bool Bool (some_step is) (some_in_arm is) (some_in_loop is) (Stmt-F.Assign n written value)

  pub some_Update : (n : Node) (written : Target) (op : BinaryOp) (value : Expr) → has_some is (stmt.Update n written op value) ≡ is (Stmt-F.Update n written op value)
  unfolding has_some
  some_Update n written op value = ap (has_some is) (sym (stmt.rolls-Update n written op value)) ∙ fold-roll-Stmt Bool Bool Bool (some_step is) (some_in_arm is) (some_in_loop is) (Stmt-F.Update n written op value)

  pub some_Evaluate : (n : Node) (value : Expr) → has_some is (stmt.Evaluate n value) ≡ is (Stmt-F.Evaluate n value)
  unfolding has_some
  some_Evaluate n value = ap (has_some is) (sym (stmt.rolls-Evaluate n value)) ∙ fold-roll-Stmt Bool Bool Bool (some_step is) (some_in_arm is) (some_in_loop is) (Stmt-F.Evaluate n value)

  pub some_Print : (n : Node) (printed : Printed) → has_some is (stmt.Print n printed) ≡ is (Stmt-F.Print n printed)
  unfolding has_some
  some_Print n printed = ap (has_some is) (sym (stmt.rolls-Print n printed)) ∙ fold-roll-Stmt Bool Bool Bool (some_step is) (some_in_arm is) (some_in_loop is) (Stmt-F.Print n printed)

  pub some_Pipeline : (n : Node) (head : Expr) (stages : List Stage) → has_some is (stmt.Pipeline n head stages) ≡ is (Stmt-F.Pipeline n head stages)
  unfolding has_some
  some_Pipeline n head stages = ap (has_some is) (sym (stmt.rolls-Pipeline n head stages)) ∙ fold-roll-Stmt Bool Bool Bool (some_step is) (some_in_arm is) (some_in_loop is) (Stmt-F.Pipeline n head stages)

  pub some_If : (n : Node) (arms : List Arm) (otherwise : List Stmt) → has_some is (stmt.If n arms otherwise) ≡ list_any (some_arm is) arms || list_any (has_some is) otherwise
  unfolding has_some
  some_If n arms otherwise = ap (has_some is) (sym (stmt.rolls-If n arms otherwise)) ∙ fold-roll-Stmt Bool Bool Bool (some_step is) (some_in_arm is) (some_in_loop is) (Stmt-F.If n arms otherwise) ∙ ap (λ b. b || list_any (λ b. b) (map (has_some is) otherwise)) (some_arms_are arms) ∙ ap (λ b. list_any (some_arm is) arms || b) (any_map (has_some is) otherwise)

  pub some_While : (n : Node) (condition : Expr) (body : List Stmt) → has_some is (stmt.While n condition body) ≡ list_any (has_some is) body
  unfolding has_some
  some_While n condition body = ap (has_some is) (sym (stmt.rolls-While n condition body)) ∙ fold-roll-Stmt Bool Bool Bool (some_step is) (some_in_arm is) (some_in_loop is) (Stmt-F.While n condition body) ∙ any_map (has_some is) body

  pub some_For : (l : For) → has_some is (stmt.For l) ≡ some_for is l
  unfolding has_some
  some_For l = ap (has_some is) (sym (stmt.rolls-For l)) ∙ fold-roll-Stmt Bool Bool Bool (some_step is) (some_in_arm is) (some_in_loop is) (Stmt-F.For l) ∙ some_loop_is l

  pub some_Par : (n : Node) (settings : ParOptions) (l : For) → has_some is (stmt.Par n settings l) ≡ some_for is l
  unfolding has_some
  some_Par n settings l = ap (has_some is) (sym (stmt.rolls-Par n settings l)) ∙ fold-roll-Stmt Bool Bool Bool (some_step is) (some_in_arm is) (some_in_loop is) (Stmt-F.Par n settings l) ∙ some_loop_is l

pub ruleset body_rules = (assigned_Pass, assigned_Break, assigned_Continue, assigned_Return, assigned_Yield, assigned_Raise, assigned_Assert, assigned_Annotated, assigned_Assign, assigned_Update, assigned_Evaluate, assigned_Print, assigned_Pipeline, assigned_If, assigned_While, assigned_For, assigned_Par, some_Pass, some_Break, some_Continue, some_Return, some_Yield, some_Raise, some_Assert, some_Annotated, some_Assign, some_Update, some_Evaluate, some_Print, some_Pipeline, some_If, some_While, some_For, some_Par, append-nil, append_assoc)

pub ruleset list_rules = (append-nil, append_assoc, map-append)
