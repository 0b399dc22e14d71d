-- The code of a sum pushes the number that the sum means.
use Rattle.std.proofs.Common.{◌≡◌, ℕ, ℤ, if◌then◌else◌, is_some, List, [], ◌∷◌, ◌++◌, Option, Some, None, slice_get, refl, ap, ◌∙◌, append_assoc}
use Rattle.codon_base.specs.declared.value.Value.{Value}
use Rattle.codon_base.specs.declared.value.Value.TheVariants as value
use Rattle.source_trees.specs.declared.node.Node.{Node}
use Rattle.source_trees.specs.declared.operator.BinaryOp.{BinaryOp}
use Rattle.source_trees.specs.declared.expression.Expr.{Expr}
use Rattle.source_trees.specs.declared.expression.Expr.TheVariants as e
use Rattle.meaning_rules.specs.State.{Spelling, State}
use Rattle.meaning_rules.specs.Outcome.{Gives, pure, bind}
use Rattle.meaning_rules.specs.Task.{Setting}
use Rattle.meaning_rules.specs.Expressions.{expr}
use Rattle.meaning_rules.specs.Operations.{binary}
use Rattle.code_module.specs.declared.instr.Instr.{Instr}
use Rattle.code_module.specs.declared.instr.Instr.TheVariants as instr
use Rattle.code_module.specs.declared.instr.BinaryOp.{BinaryOp as Operation}
use Rattle.code_module.specs.declared.instr.BinaryOp.TheVariants as operation
use Rattle.code_module.specs.Machine.{result_of}
use Rattle.straight_lines.specs.Names.{is_numbered}
use Rattle.straight_lines.specs.Built.{first_of, first_at}
use Rattle.straight_lines.specs.Emitted.{operation_of, run_at, of_module, EmitsSum}
use Rattle.straight_lines.proofs.UnbuiltSums.{unbuilt_Name, unbuilt_Number, unbuilt_Bracketed, unbuilt_Binary}
use Rattle.straight_lines.proofs.Meanings.{bind_gives, expr_Name, expr_Number, expr_Bracketed, expr_Binary, read_held, operator_gives, operator_is_built}

pub number_emitted : (numbers : Spelling → Option ℕ) (n : Node) (z : ℤ) (old new : List Instr) → new ≡ old ++ instr.Int z ∷ [] → EmitsSum numbers (e.Number n z) old new
unfolding pure
number_emitted numbers n z old new written = record {
  built = unbuilt_Number (is_numbered numbers) n z;
  code = instr.Int z ∷ [];
  written = written;
  pushes = λ here fixed s globals agree. (z, expr_Number here n z (of_module fixed) s, λ stack out rest. refl);
}

run_global : (globals stack : List Value) (out : List ℕ) (k : ℕ) (z : ℤ) (rest : List Instr) → slice_get globals k ≡ Some (value.Int z) → run_at (instr.GetG k ∷ rest) stack globals out ≡ run_at rest (value.Int z ∷ stack) globals out
run_global globals stack out k z rest e = rw e refl

pub name_emitted : (numbers : Spelling → Option ℕ) (n : Node) (name : Spelling) (k : ℕ) (old new : List Instr) → numbers name ≡ Some k → new ≡ old ++ instr.GetG k ∷ [] → EmitsSum numbers (e.Name n name) old new
name_emitted numbers n name k old new given written = record {
  built = unbuilt_Name (is_numbered numbers) n name ∙ ap (λ o. if is_some o then None else Some n.at) given;
  code = instr.GetG k ∷ [];
  written = written;
  pushes = λ here fixed s globals agree. (
    (agree name k given).0,
    expr_Name here n name (of_module fixed) s ∙ read_held here.program fixed name (agree name k given).0 s (agree name k given).1,
    λ stack out rest. run_global globals stack out k (agree name k given).0 rest (agree name k given).2,
  );
}

pub bracketed_emitted : (numbers : Spelling → Option ℕ) (n : Node) (a : Expr) (old new : List Instr) → EmitsSum numbers a old new → EmitsSum numbers (e.Bracketed n a) old new
bracketed_emitted numbers n a old new r = record {
  built = unbuilt_Bracketed (is_numbered numbers) n a ∙ ap (λ o. first_of (o ∷ [])) r.built;
  code = r.code;
  written = r.written;
  pushes = λ here fixed s globals agree. (
    (r.pushes here fixed s globals agree).0,
    expr_Bracketed here n a (of_module fixed) s ∙ (r.pushes here fixed s globals agree).1,
    (r.pushes here fixed s globals agree).2,
  );
}

run_binary : (op : Operation) (a b : ℤ) (globals stack : List Value) (out : List ℕ) (rest : List Instr) → run_at (instr.Binary op ∷ rest) (value.Int b ∷ value.Int a ∷ stack) globals out ≡ run_at rest (value.Int (result_of op a b) ∷ stack) globals out
run_binary operation.Add a b globals stack out rest = refl
run_binary operation.Sub a b globals stack out rest = refl
run_binary operation.Mul a b globals stack out rest = refl

-- the second operand is evaluated in the state in which the first was, and the operator on both
both_given : (here : Setting) (fixed : List Spelling) (n : Node) (by : BinaryOp) (op : Operation) (a b : Expr) (x y : ℤ) (s : State) → operation_of by ≡ Some op → expr here (of_module fixed) a s ≡ Gives (value.Int x) s → expr here (of_module fixed) b s ≡ Gives (value.Int y) s → expr here (of_module fixed) (e.Binary n by a b) s ≡ Gives (value.Int (result_of op x y)) s
both_given here fixed n by op a b x y s is first second =
    expr_Binary here n by a b (of_module fixed) s
    ∙ bind_gives (expr here (of_module fixed) a) (λ v. bind (expr here (of_module fixed) b) (λ w. binary here.rules by v w)) s s (value.Int x) first
    ∙ bind_gives (expr here (of_module fixed) b) (λ w. binary here.rules by (value.Int x) w) s s (value.Int y) second
    ∙ operator_gives by op is here.rules x y s

both_pushed : (op : Operation) (x y : ℤ) (globals : List Value) (first second : List Instr) → ((stack : List Value) (out : List ℕ) (rest : List Instr) → run_at (first ++ rest) stack globals out ≡ run_at rest (value.Int x ∷ stack) globals out) → ((stack : List Value) (out : List ℕ) (rest : List Instr) → run_at (second ++ rest) stack globals out ≡ run_at rest (value.Int y ∷ stack) globals out) → (stack : List Value) (out : List ℕ) (rest : List Instr) → run_at ((first ++ (second ++ instr.Binary op ∷ [])) ++ rest) stack globals out ≡ run_at rest (value.Int (result_of op x y) ∷ stack) globals out
both_pushed op x y globals first second p q stack out rest =
    ap (λ c. run_at c stack globals out) (append_assoc first (second ++ instr.Binary op ∷ []) rest ∙ ap (λ c. first ++ c) (append_assoc second (instr.Binary op ∷ []) rest))
    ∙ p stack out (second ++ instr.Binary op ∷ rest)
    ∙ q (value.Int x ∷ stack) out (instr.Binary op ∷ rest)
    ∙ run_binary op x y globals stack out rest

pub binary_emitted : (numbers : Spelling → Option ℕ) (n : Node) (by : BinaryOp) (op : Operation) (a b : Expr) (old mid last new : List Instr) → operation_of by ≡ Some op → EmitsSum numbers a old mid → EmitsSum numbers b mid last → new ≡ last ++ instr.Binary op ∷ [] → EmitsSum numbers (e.Binary n by a b) old new
binary_emitted numbers n by op a b old mid last new is r q written = record {
  built = unbuilt_Binary (is_numbered numbers) n by a b ∙ (λ i. first_at (operator_is_built by op is i) n (r.built i ∷ q.built i ∷ []));
  code = r.code ++ (q.code ++ instr.Binary op ∷ []);
  written = written ∙ ap (λ c. c ++ instr.Binary op ∷ []) (q.written ∙ ap (λ c. c ++ q.code) r.written) ∙ simp append_assoc;
  pushes = λ here fixed s globals agree.
      let x = (r.pushes here fixed s globals agree).0 in
      let y = (q.pushes here fixed s globals agree).0 in (
        result_of op x y,
        both_given here fixed n by op a b x y s is (r.pushes here fixed s globals agree).1 (q.pushes here fixed s globals agree).1,
        both_pushed op x y globals r.code q.code (r.pushes here fixed s globals agree).2 (q.pushes here fixed s globals agree).2,
      );
}
