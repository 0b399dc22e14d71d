-- The heights of statements with blocks.
use Rattle.std.proofs.Common.{◌≡◌, ℕ, ◌+◌, ◌-◌, ◌≤◌, max, List, [], ◌∷◌, map, ap, ◌∙◌, arith}
use Rattle.std.specs.List.{flat_map}
use Rattle.source_trees.specs.declared.expression.Expr.{Expr}
use Rattle.source_trees.specs.declared.node.Node.{Node}
use Rattle.source_trees.specs.declared.statement.Arm.{Arm}
use Rattle.source_trees.specs.declared.statement.For.{For}
use Rattle.source_trees.specs.declared.statement.ParOptions.{ParOptions}
use Rattle.source_trees.specs.declared.statement.Stmt.{Stmt}
use Rattle.source_trees.specs.declared.statement.Stmt.TheVariants as stmt
use Rattle.source_trees.specs.Heights.{highest, over_parts, height_of_expr, height_of_stmt, height_of_arm, height_of_for}
use Rattle.source_trees.specs.Parts.{of_arm}
use Rattle.source_trees.proofs.HeightForms.{highest_arms, for_height}
use Rattle.source_trees.proofs.Highest.{highest-append}
use Rattle.parse_laws.proofs.Lists.{FitEach}
use Rattle.parse_expressions.specs.Forms.{Low}
use Rattle.parse_expressions.proofs.Lows.{loop_names_high}
use Rattle.parse_statements.specs.Readers.{LowStmt, LowStmts}
use Rattle.parse_statements.proofs.Heights.{stmt_If, stmt_While, stmt_For, stmt_Par, arm_is}

-- each of these statements has at most this height
abbrev pub LowBody : ℕ → List Stmt → Type 0
LowBody n = FitEach (LowStmt n)

pub body_up : (n : ℕ) (ss : List Stmt) → LowBody n ss → highest (map height_of_stmt ss) ≤ n
body_up n [] f = omega arith
body_up n (s ∷ ss) f = let i = f.0 in let k = body_up n ss f.1 in omega arith

pub body_down : (n : ℕ) (ss : List Stmt) → highest (map height_of_stmt ss) ≤ n → LowBody n ss
body_down n [] h = tt
body_down n (s ∷ ss) h = (omega arith, body_down n ss (omega arith))

pub stmts_body : (n : ℕ) (ss : List Stmt) → LowStmts n ss → LowBody n ss
stmts_body n [] f = tt
stmts_body n (s ∷ ss) f = (f.0, stmts_body n ss f.1)

pub body_stmts : (n : ℕ) (ss : List Stmt) → LowBody n ss → LowStmts n ss
body_stmts n [] f = tt
body_stmts n (s ∷ ss) f = (f.0, body_stmts n ss f.1)

-- ---- arms

-- the parts of the arm have at most this height
abbrev pub LowArm : ℕ → Arm → Type 0
LowArm n a = Low n a.condition × LowBody n a.body

arm_height : (a : Arm) → height_of_arm a ≡ max (height_of_expr a.condition) (highest (map height_of_stmt a.body))
arm_height a = ap highest (arm_is over_parts a)

arms_up : (n : ℕ) (arms : List Arm) → FitEach (LowArm n) arms → highest (map height_of_arm arms) ≤ n
arms_up n [] f = omega arith
arms_up n (a ∷ arms) f = let c = f.0.0 in let i = body_up n a.body f.0.1 in let h = arm_height a in let k = arms_up n arms f.1 in omega arith

arms_down : (n : ℕ) (arms : List Arm) → highest (map height_of_arm arms) ≤ n → FitEach (LowArm n) arms
arms_down n [] f = tt
arms_down n (a ∷ arms) f = let h = arm_height a in ((omega arith, body_down n a.body (omega arith)), arms_down n arms (omega arith))

if_height : (n : Node) (arms : List Arm) (other : List Stmt) → height_of_stmt (stmt.If n arms other) ≡ max (highest (map height_of_arm arms)) (highest (map height_of_stmt other)) + 1
if_height n arms other =
    stmt_If over_parts n arms other
    ∙ ap (λ z. z + 1) (highest-append (flat_map (λ arm. arm) (map (of_arm over_parts) arms)) (map height_of_stmt other) ∙ ap (λ z. max z (highest (map height_of_stmt other))) (highest_arms arms))

pub if_low : (n : ℕ) → 1 ≤ n → (m : Node) (arms : List Arm) (other : List Stmt) → FitEach (LowArm (n - 1)) arms → LowBody (n - 1) other → LowStmt n (stmt.If m arms other)
if_low n some m arms other f g = let h = if_height m arms other in let i = arms_up (n - 1) arms f in let k = body_up (n - 1) other g in omega arith

pub low_if : (n : ℕ) (m : Node) (arms : List Arm) (other : List Stmt) → LowStmt n (stmt.If m arms other) → FitEach (LowArm (n - 1)) arms × LowBody (n - 1) other
low_if n m arms other l = let h = if_height m arms other in (arms_down (n - 1) arms (omega arith), body_down (n - 1) other (omega arith))

-- ---- loops

while_height : (m : Node) (x : Expr) (body : List Stmt) → height_of_stmt (stmt.While m x body) ≡ max (height_of_expr x) (highest (map height_of_stmt body)) + 1
while_height m x body = stmt_While over_parts m x body

pub while_low : (n : ℕ) → 1 ≤ n → (m : Node) (x : Expr) (body : List Stmt) → Low (n - 1) x → LowBody (n - 1) body → LowStmt n (stmt.While m x body)
while_low n some m x body f g = let h = while_height m x body in let i = body_up (n - 1) body g in omega arith

pub low_while : (n : ℕ) (m : Node) (x : Expr) (body : List Stmt) → LowStmt n (stmt.While m x body) → Low (n - 1) x × LowBody (n - 1) body
low_while n m x body l = let h = while_height m x body in (omega arith, body_down (n - 1) body (omega arith))

-- the loop has at most this height
abbrev pub LowFor : ℕ → For → Type 0
LowFor n f = height_of_for f ≤ n

pub for_low : (n : ℕ) → 2 ≤ n → (f : For) → Low (n - 1) f.iterable → LowBody (n - 1) f.body → LowFor n f
for_low n some f p q = let h = for_height f in let i = loop_names_high f.names in let k = body_up (n - 1) f.body q in omega arith

pub low_for : (n : ℕ) (f : For) → LowFor n f → Low (n - 1) f.iterable × LowBody (n - 1) f.body
low_for n f l = let h = for_height f in (omega arith, body_down (n - 1) f.body (omega arith))

pub loop_height : (f : For) → height_of_stmt (stmt.For f) ≡ height_of_for f
loop_height f = stmt_For over_parts f

pub par_height : (m : Node) (o : ParOptions) (f : For) → height_of_stmt (stmt.Par m o f) ≡ max (height_of_for f) 0 + 1
par_height m o f = stmt_Par over_parts m o f
