-- The code of a statement does what the statement means.
use Rattle.std.proofs.Common.{◌≡◌, ◌≢◌, ℕ, zero, suc, ℤ, ◌<◌, ◌≤◌, Bool, true, false, ◌||◌, if◌then◌else◌, is_some, List, [], ◌∷◌, ◌++◌, Option, Some, None, slice_get, slice_set, length, subst, refl, ap, sym, ◌∙◌, arith, append_assoc, append-nil}
use Rattle.std.proofs.lemmas.Bool.{lt-ltb}
use Rattle.std.proofs.lemmas.Grind.{common_steps}
use Rattle.std.specs.Fmt.{signed_decimal}
use Rattle.codon_base.specs.declared.value.Value.{Value}
use Rattle.codon_base.specs.declared.value.Value.TheVariants as value
use Rattle.source_trees.specs.declared.node.Node.{Node}
use Rattle.source_trees.specs.declared.pipeline.Printed.{Printed}
use Rattle.source_trees.specs.declared.pipeline.PrintOptions.{PrintOptions}
use Rattle.source_trees.specs.declared.pipeline.PrintOptions.TheVariants as options
use Rattle.source_trees.specs.declared.statement.Targets.{Targets}
use Rattle.source_trees.specs.declared.expression.Expr.{Expr}
use Rattle.source_trees.specs.declared.statement.Stmt.TheVariants as d
use Rattle.meaning_rules.specs.State.{Spelling, State, Next, same, is_among, assigned_to}
use Rattle.source_trees.specs.declared.item.Item.TheVariants as item
use Rattle.meaning_rules.specs.Bodies.{assigned}
use Rattle.meaning_rules.specs.Program.{statement_in}
use Rattle.meaning_rules.specs.Outcome.{Gives, pure, bind, write}
use Rattle.meaning_rules.specs.Task.{Setting}
use Rattle.meaning_rules.specs.Expressions.{expr}
use Rattle.meaning_rules.specs.Statements as statements
use Rattle.meaning_rules.specs.Statements.{stmt}
use Rattle.meaning_rules.specs.Printing as printing
use Rattle.code_module.specs.declared.instr.Instr.{Instr}
use Rattle.code_module.specs.declared.instr.Instr.TheVariants as instr
use Rattle.straight_lines.specs.declared.emitter.Emitter.{Emitter}
use Rattle.straight_lines.specs.Names.{number_in, is_numbered, AreNumbers, Numbers}
use Rattle.straight_lines.specs.Built.{first_of, unbuilt_in_targets, unbuilt_in_print}
use Rattle.straight_lines.specs.Emitted.{run_at, of_module, print_code, assigned_name, Agree, EmitsSum, EmitsStmt}
use Rattle.straight_lines.proofs.Numbered.{bytes_eq-true, bytes_eq-apart, same_number}
use Rattle.straight_lines.proofs.UnbuiltStatements.{unbuilt_Assign, unbuilt_Print}
use Rattle.straight_lines.proofs.Meanings.{bind_gives, stmt_Assign, stmt_Print, print_given, name_assigned, with_variable, with_printed, assigned_by_Assign, assigned_by_Print, names_assigned}

-- ---- prints

run_print : (z : ℤ) (globals : List Value) (out : List ℕ) (rest : List Instr) → run_at (print_code ++ rest) (value.Int z ∷ []) globals out ≡ run_at rest [] globals (out ++ (signed_decimal z ++ 10 ∷ []))
run_print z globals out rest = ap (λ t. run_at rest [] globals (out ++ (t ++ 10 ∷ []))) (append-nil (signed_decimal z))

print_means : (here : Setting) (fixed : List Spelling) (n : Node) (e : Expr) (printed : Printed) (z : ℤ) (s : State) → printed.values ≡ e ∷ [] → printed.options ≡ options.Neither → expr here (of_module fixed) e s ≡ Gives (value.Int z) s → stmt here [] (d.Print n printed) (of_module fixed) s ≡ Gives Next (with_printed (signed_decimal z ++ 10 ∷ []) s)
unfolding pure write
print_means here fixed n e printed z s one plain h =
    stmt_Print here [] n printed (of_module fixed) s
    ∙ bind_gives (printing.print_after here (of_module fixed) [] printed) (λ _. pure Next) s (with_printed (signed_decimal z ++ 10 ∷ []) s) tt (print_given here fixed e printed z s one plain h)

printed_built : (known : Spelling → Bool) (n : Node) (values : List Expr) (ends : PrintOptions) (e : Expr) → values ≡ e ∷ [] → ends ≡ options.Neither → unbuilt_in_print known n values ends ≡ unbuilt_in_print known n (e ∷ []) options.Neither
printed_built known n values ends e one plain = λ i. unbuilt_in_print known n (one i) (plain i)

pub print_emitted : (old new : Emitter) (mid : List Instr) (n : Node) (printed : Printed) (e : Expr) → printed.values ≡ e ∷ [] → printed.options ≡ options.Neither → EmitsSum (number_in old.names) e old.code.items mid → new.code.items ≡ mid ++ print_code → new.names ≡ old.names → AreNumbers (number_in old.names) old.names.count → EmitsStmt (d.Print n printed) old new
print_emitted old new mid n printed e one plain sum written names valid = record {
  built = unbuilt_Print (is_numbered (number_in old.names)) n printed ∙ printed_built (is_numbered (number_in old.names)) n printed.values printed.options e one plain ∙ sum.built;
  known = λ name. ap (λ m. is_numbered (number_in m) name) names ∙ sym (ap (λ (assigned : List Spelling). is_among name (assigned ++ []) || is_numbered (number_in old.names) name) (assigned_by_Print n printed));
  valid = subst (λ m. AreNumbers (number_in m) m.count) (sym names) valid;
  more = subst (λ m. old.names.count ≤ m.count) (sym names) (omega arith);
  code = sum.code ++ print_code;
  written = written ∙ ap (λ c. c ++ print_code) sum.written ∙ append_assoc old.code.items sum.code print_code;
  performs = λ here fixed s globals enough agree.
      let z = (sum.pushes here fixed s globals agree).0 in (
        with_printed (signed_decimal z ++ 10 ∷ []) s,
        globals,
        print_means here fixed n e printed z s one plain (sum.pushes here fixed s globals agree).1,
        refl,
        λ name k given. agree name k (ap (λ m. number_in m name) (sym names) ∙ given),
        λ rest.
            ap (λ c. run_at c [] globals s.shared.out) (append_assoc sum.code print_code rest)
            ∙ (sum.pushes here fixed s globals agree).2 [] s.shared.out (print_code ++ rest)
            ∙ run_print z globals s.shared.out rest,
      );
}

-- ---- assignments

slice_get-set_same : (xs : List Value) (k : ℕ) (v : Value) → k < length xs → slice_get (slice_set xs k v) k ≡ Some v
slice_get-set_same [] k v h = absurd (omega arith)
slice_get-set_same (x ∷ xs) zero v h = refl
slice_get-set_same (x ∷ xs) (suc k) v h = slice_get-set_same xs k v (omega arith)

slice_get-set_other : (xs : List Value) (j k : ℕ) (v : Value) → j ≢ k → slice_get (slice_set xs k v) j ≡ slice_get xs j
slice_get-set_other [] j k v h = refl
slice_get-set_other (x ∷ xs) zero zero v h = absurd (h refl)
slice_get-set_other (x ∷ xs) zero (suc k) v h = refl
slice_get-set_other (x ∷ xs) (suc j) zero v h = refl
slice_get-set_other (x ∷ xs) (suc j) (suc k) v h = slice_get-set_other xs j k v (λ e. h (ap (λ n. suc n) e))

length-slice_set : (xs : List Value) (k : ℕ) (v : Value) → length (slice_set xs k v) ≡ length xs
length-slice_set xs k v = grind (arith, common_steps)

run_store : (globals : List Value) (out : List ℕ) (k : ℕ) (z : ℤ) (rest : List Instr) → k < length globals → run_at (instr.SetG k ∷ rest) (value.Int z ∷ []) globals out ≡ run_at rest [] (slice_set globals k (value.Int z)) out
run_store globals out k z rest h = rw (lt-ltb k (length globals) h) refl

assignment_means : (here : Setting) (fixed : List Spelling) (n : Node) (written : Targets) (e : Expr) (name : Spelling) (z : ℤ) (s : State) → assigned_name written ≡ Some name → expr here (of_module fixed) e s ≡ Gives (value.Int z) s → stmt here [] (d.Assign n written e) (of_module fixed) s ≡ Gives Next (with_variable name (value.Int z) s)
unfolding pure
assignment_means here fixed n written e name z s is h =
    stmt_Assign here [] n written e (of_module fixed) s
    ∙ bind_gives (bind (expr here (of_module fixed) e) (statements.assign_all here (of_module fixed) written)) (λ _. pure Next) s (with_variable name (value.Int z) s) tt
    (bind_gives (expr here (of_module fixed) e) (statements.assign_all here (of_module fixed) written) s s (value.Int z) h ∙ name_assigned here fixed written name (value.Int z) s is)

-- after an assignment the name is known, and the others are as before
known_at : (old numbers : Spelling → Option ℕ) (old_count count : ℕ) (name : Spelling) (number : ℕ) → Numbers old numbers old_count count name number → (x : Spelling) (b : Bool) → same x name ≡ b → is_numbered numbers x ≡ ((same x name || false) || is_numbered old x)
known_at old numbers old_count count name number given x true b =
    ap (λ y. is_numbered numbers y) (bytes_eq-true x name b) ∙ ap is_some given.own ∙ sym (ap (λ y. (y || false) || is_numbered old x) b)
known_at old numbers old_count count name number given x false b =
    ap is_some (given.others x (bytes_eq-apart x name b)) ∙ sym (ap (λ y. (y || false) || is_numbered old x) b)

known_assigned : (old numbers : Spelling → Option ℕ) (old_count count : ℕ) (name : Spelling) (number : ℕ) (n : Node) (written : Targets) (e : Expr) → assigned_name written ≡ Some name → Numbers old numbers old_count count name number → (x : Spelling) → is_numbered numbers x ≡ (is_among x (assigned (statement_in (item.Stmt (d.Assign n written e)))) || is_numbered old x)
known_assigned old numbers old_count count name number n written e is given x =
    known_at old numbers old_count count name number given x (same x name) refl
    ∙ sym (ap (λ (names : List Spelling). is_among x (names ++ []) || is_numbered old x) (assigned_by_Assign n written e ∙ names_assigned written name is))

-- after it the name's global holds the value, and the others what they held
agree_own : (numbers : Spelling → Option ℕ) (name : Spelling) (number : ℕ) (z : ℤ) (s : State) (globals : List Value) → numbers name ≡ Some number → number < length globals → (x : Spelling) (k : ℕ) → same name x ≡ true → numbers x ≡ Some k → (y : ℤ) × (assigned_to name (value.Int z) s.shared.globals x ≡ value.Int y) × (slice_get (slice_set globals number (value.Int z)) k ≡ Some (value.Int y))
agree_own numbers name number z s globals own small x k b e =
    let at : k ≡ number = same_number k number (numbers name) (ap numbers (bytes_eq-true name x b) ∙ e) own in
    (z, ap (λ y. if y then value.Int z else s.shared.globals x) b, ap (λ j. slice_get (slice_set globals number (value.Int z)) j) at ∙ slice_get-set_same globals number (value.Int z) small)

agree_others : (old numbers : Spelling → Option ℕ) (old_count count : ℕ) (name : Spelling) (number : ℕ) (z : ℤ) (s : State) (globals : List Value) → Numbers old numbers old_count count name number → Agree old s globals → (x : Spelling) (k : ℕ) → same name x ≡ false → numbers x ≡ Some k → (y : ℤ) × (assigned_to name (value.Int z) s.shared.globals x ≡ value.Int y) × (slice_get (slice_set globals number (value.Int z)) k ≡ Some (value.Int y))
agree_others old numbers old_count count name number z s globals given agree x k b e =
    let apart : k ≢ number = λ at. bytes_eq-apart name x b (given.valid.apart name x number given.own (e ∙ ap (λ j. Some j) at)) in
    let differs : x ≢ name = λ at. bytes_eq-apart name x b (sym at) in
    let before = agree x k (sym (given.others x differs) ∙ e) in
    (before.0, ap (λ y. if y then value.Int z else s.shared.globals x) b ∙ before.1, slice_get-set_other globals k number (value.Int z) apart ∙ before.2)

agree_at : (old numbers : Spelling → Option ℕ) (old_count count : ℕ) (name : Spelling) (number : ℕ) (z : ℤ) (s : State) (globals : List Value) → Numbers old numbers old_count count name number → number < length globals → Agree old s globals → (x : Spelling) (k : ℕ) (b : Bool) → same name x ≡ b → numbers x ≡ Some k → (y : ℤ) × (assigned_to name (value.Int z) s.shared.globals x ≡ value.Int y) × (slice_get (slice_set globals number (value.Int z)) k ≡ Some (value.Int y))
agree_at old numbers old_count count name number z s globals given small agree x k true b e =
    agree_own numbers name number z s globals given.own small x k b e
agree_at old numbers old_count count name number z s globals given small agree x k false b e =
    agree_others old numbers old_count count name number z s globals given agree x k b e

pub assignment_emitted : (old new : Emitter) (mid : List Instr) (written : Targets) (e : Expr) (name : Spelling) (number : ℕ) → unbuilt_in_targets written ≡ None → assigned_name written ≡ Some name → EmitsSum (number_in old.names) e old.code.items mid → Numbers (number_in old.names) (number_in new.names) old.names.count new.names.count name number → new.code.items ≡ mid ++ instr.SetG number ∷ [] → (n : Node) → EmitsStmt (d.Assign n written e) old new
assignment_emitted old new mid written e name number target is sum given stored n = record {
  built = unbuilt_Assign (is_numbered (number_in old.names)) n written e ∙ (λ i. first_of (target i ∷ sum.built i ∷ []));
  known = known_assigned (number_in old.names) (number_in new.names) old.names.count new.names.count name number n written e is given;
  valid = given.valid;
  more = given.more;
  code = sum.code ++ instr.SetG number ∷ [];
  written = stored ∙ ap (λ c. c ++ instr.SetG number ∷ []) sum.written ∙ append_assoc old.code.items sum.code (instr.SetG number ∷ []);
  performs = λ here fixed s globals enough agree.
      let z = (sum.pushes here fixed s globals agree).0 in
      let small : number < length globals = omega (arith, enough, given.valid.below name number given.own) in (
        with_variable name (value.Int z) s,
        slice_set globals number (value.Int z),
        assignment_means here fixed n written e name z s is (sum.pushes here fixed s globals agree).1,
        length-slice_set globals number (value.Int z),
        λ x k numbered. agree_at (number_in old.names) (number_in new.names) old.names.count new.names.count name number z s globals given small agree x k (same name x) refl numbered,
        λ rest.
            ap (λ c. run_at c [] globals s.shared.out) (append_assoc sum.code (instr.SetG number ∷ []) rest)
            ∙ (sum.pushes here fixed s globals agree).2 [] s.shared.out (instr.SetG number ∷ rest)
            ∙ run_store globals s.shared.out number z rest small,
      );
}
