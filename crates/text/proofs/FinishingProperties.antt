-- A rule or query that was built, copied into an empty row.
use Rattle.std.proofs.Common.{◌≡◌, ℕ, suc, ◌<◌, ◌≤◌, Bool, true, false, cond, ◌&&◌, ltb, List, [], ◌∷◌, length, get_or}
use Rattle.std.proofs.Common.{take, is_err, Some, None, Option, Ok, Err, Result, sym, refl, ap, ◌∙◌, subst, inl, inr, arith}
use Rattle.std.proofs.lemmas.List.{length-take}
use Rattle.std.proofs.lemmas.Bool.{ltb-true, lt-ltb, and_parts, cond-true, cases_Bool, both_ways, false≢true}
use Rattle.names.specs.Listed.{Lawful, place_of}
use Rattle.names.proofs.InternedProperties.{kept_same}
use Rattle.terms.specs.declared.node.Node.{Node}
use Rattle.terms.specs.declared.node.Node.TheVariants.{Var, Int, App}
use Rattle.terms.specs.BuiltIns.{is_built_in}
use Rattle.terms.specs.Copies.{Standard, Any, CopyOf}
use Rattle.terms.specs.Goals.{goal_form}
use Rattle.terms.specs.Known.{true_name}
use Rattle.terms.specs.Places.{no_node, node_at}
use Rattle.terms.specs.Rows.{terms_at, build, meanings, meaning, fitting, fitting_from}
use Rattle.terms.specs.Tables.{Tabled}
use Rattle.terms.specs.Term as term
use Rattle.terms.specs.Term.{Term, Terms}
use Rattle.terms.proofs.BuiltInsProperties.{built_in_tabled}
use Rattle.terms.proofs.FittingProperties.{fitting_from_at, fitting_args}
use Rattle.terms.proofs.GoalsProperties.{count_terms_at}
use Rattle.terms.proofs.RowsProperties.{meaning_build, meaning_front}
use Rattle.terms.proofs.TablesProperties.{tabled_standard}
use Rattle.grammar.specs.Written.{Written, Writtens, var, int, app, nil, cons, size}
use Rattle.reader.specs.declared.sentence.Shape.{Shape}
use Rattle.reader.specs.declared.sentence.Shape.TheVariants as shape
use Rattle.reader.specs.Ops.{Stack}
use Rattle.text.specs.declared.answer.RuleText.{RuleText}
use Rattle.text.specs.declared.answer.QueryText.{QueryText}
use Rattle.text.specs.declared.fault.LimitFault.{LimitFault}
use Rattle.text.specs.declared.fault.HeadFault.{HeadFault}
use Rattle.text.specs.declared.fault.HeadFault.TheVariants.{VariableHead, IntegerHead, BuiltInHead}
use Rattle.reader.specs.declared.span.Span.{Span}
use Rattle.text.specs.Numbering.{Met, met, met_stack, numbered, numbered_all}
use Rattle.text.specs.Limits.{rule_fits, query_fits, stack_fits}
use Rattle.text.specs.Building.{Built}
use Rattle.text.specs.Rules.{body_fault, head_fault}
use Rattle.text.specs.Faults.{head_node_fault, body_node_fault, first_of, nodes_fault, Eight}
use Rattle.text.specs.Finishing.{Leaves, CopiedRule, RuleCopied, CopiedQuery, QueryCopied}
use Rattle.text.proofs.NumberingProperties.{length_cuts}
use Rattle.text.proofs.StacksProperties.{fits_parts, fits_from, named_parts}
use Rattle.text.proofs.RulesProperties.{rule_from, rule_large, query_fits_from, query_large}

pub lawful_tabled : (ns : List (List ℕ)) → Lawful ns → Tabled ns
lawful_tabled ns law = record { begins = law.first; once = once }
  where
    once : (i j : ℕ) → i < length ns → j < length ns → get_or ns i [] ≡ get_or ns j [] → i ≡ j
    once i j l m e =
        let s : Some i ≡ Some j = sym (law.apart i l) ∙ ap (place_of ns) e ∙ law.apart j m in
        let at : i ≡ j = cc in
        at

-- a stack that passes a limit leaves no rule within the limits
pub leaves_unfit : (s : Shape) (ns : List (List ℕ)) (st : Stack) (h b : Written) → Leaves s st h b
    → stack_fits ns st ≡ false → stack_fits ns (b ∷ h ∷ []) ≡ false
leaves_unfit shape.Fact ns st h b l e =
    ap (λ x. stack_fits ns (x ∷ h ∷ [])) l.1 ∙ elim (cases_Bool (stack_fits ns (app true_name nil ∷ h ∷ []))) [
      | inl t ↦ absurd (both_ways (stack_fits ns (h ∷ [])) (ap (stack_fits ns) (sym l.0) ∙ e) (fits_from ns (h ∷ [])
          (named_parts ns true_name 0 (h ∷ []) (fits_parts ns (app true_name nil ∷ h ∷ []) t)).before))
      | inr f ↦ f
    ]
leaves_unfit shape.Rule ns st h b l e = ap (stack_fits ns) (sym l) ∙ e

-- a query's place and term

pub one_place : (xs : List ℕ) → length xs ≡ 1 → xs ≡ get_or xs 0 0 ∷ []
one_place [] e = absurd (omega arith)
one_place (x ∷ []) e = refl
one_place (x ∷ y ∷ xs) e = absurd (omega arith)

pub two_places : (xs : List ℕ) → length xs ≡ 2 → xs ≡ get_or xs 0 0 ∷ get_or xs 1 0 ∷ []
two_places [] e = absurd (omega arith)
two_places (x ∷ []) e = absurd (omega arith)
two_places (x ∷ y ∷ []) e = refl
two_places (x ∷ y ∷ z ∷ xs) e = absurd (omega arith)

built_one_place : (text : List ℕ) (first : List (List ℕ)) (g : Written) (ns : List (List ℕ)) (nodes : List Node) (p : ℕ)
    (spans : List Span) → Built text first (g ∷ []) ns nodes (p ∷ []) spans
    → (p < length nodes) × (meaning ns nodes p ≡ numbered [] g)
built_one_place text first g ns nodes p spans b =
    let two = and_parts (ltb p (length nodes)) true b.placed in
    let e : meaning ns nodes p ∷ [] ≡ numbered [] g ∷ [] = b.terms_are ns (kept_same ns) in
    let t : meaning ns nodes p ≡ numbered [] g = cc in
    (ltb-true p (length nodes) two.0, t)

pub built_one : (text : List ℕ) (first : List (List ℕ)) (g : Written) (ns : List (List ℕ)) (nodes : List Node)
    (places : List ℕ) (p : ℕ) (spans : List Span) → places ≡ p ∷ [] → Built text first (g ∷ []) ns nodes places spans
    → (p < length nodes) × (meaning ns nodes p ≡ numbered [] g)
built_one text first g ns nodes places p spans e b =
    let P : List ℕ → Type 0 = λ ps. Built text first (g ∷ []) ns nodes ps spans in
    built_one_place text first g ns nodes p spans (subst P e b)

-- a rule's places and terms
pub record Two (ns : List (List ℕ)) (nodes : List Node) (p q : ℕ) (h b : Written) : Type 0 where
  pub head_in : p < length nodes
  pub body_in : q < length nodes
  pub head_is : meaning ns nodes p ≡ numbered [] h
  pub body_is : meaning ns nodes q ≡ numbered (met [] h) b

built_two_places : (text : List ℕ) (first : List (List ℕ)) (h b : Written) (ns : List (List ℕ)) (nodes : List Node) (p q : ℕ)
    (spans : List Span) → Built text first (b ∷ h ∷ []) ns nodes (p ∷ q ∷ []) spans → Two ns nodes p q h b
built_two_places text first h b ns nodes p q spans built =
    let one = and_parts (ltb p (length nodes)) (ltb q (length nodes) && true) built.placed in
    let two = and_parts (ltb q (length nodes)) true one.1 in
    let e : meaning ns nodes p ∷ meaning ns nodes q ∷ [] ≡ numbered [] h ∷ numbered (met [] h) b ∷ []
    = built.terms_are ns (kept_same ns) in
    let t : meaning ns nodes p ≡ numbered [] h = cc in
    let u : meaning ns nodes q ≡ numbered (met [] h) b = cc in
    record {
      head_in = ltb-true p (length nodes) one.0;
      body_in = ltb-true q (length nodes) two.0;
      head_is = t;
      body_is = u;
    }

pub built_two : (text : List ℕ) (first : List (List ℕ)) (h b : Written) (ns : List (List ℕ)) (nodes : List Node)
    (places : List ℕ) (p q : ℕ) (spans : List Span) → places ≡ p ∷ q ∷ []
    → Built text first (b ∷ h ∷ []) ns nodes places spans → Two ns nodes p q h b
built_two text first h b ns nodes places p q spans e built =
    let P : List ℕ → Type 0 = λ ps. Built text first (b ∷ h ∷ []) ns nodes ps spans in
    built_two_places text first h b ns nodes p q spans (subst P e built)

pub built_variables : (text : List ℕ) (first : List (List ℕ)) (st : Stack) (ns : List (List ℕ)) (nodes : List Node)
    (places : List ℕ) (spans : List Span) → Built text first st ns nodes places spans → length spans ≡ length (met_stack st)
built_variables text first st ns nodes places spans b = sym (length_cuts text spans) ∙ ap length b.met_are

-- the copies

pub copy_moved : (Good : List (List ℕ) → Type 0) (form : Term → Term) (source source' : List Node) (at limit limit' : ℕ)
    (before before' after : List Node) (r r' : Option ℕ) → source ≡ source' → limit ≡ limit' → before ≡ before' → r ≡ r'
    → CopyOf Good form source at limit before after r → CopyOf Good form source' at limit' before' after r'
copy_moved Good form source source' at limit limit' before before' after r r' es el eb er c =
    let P : List Node → Type 0 = λ s. CopyOf Good form s at limit before after r in
    let Q : ℕ → Type 0 = λ l. CopyOf Good form source' at l before after r in
    let R : List Node → Type 0 = λ b. CopyOf Good form source' at limit' b after r in
    let S : Option ℕ → Type 0 = λ o. CopyOf Good form source' at limit' before' after o in
    subst S er (subst R eb (subst Q el (subst P es c)))

-- what did not fit, as an answer

pub query_uncopied : (first : List (List ℕ)) (g : Written) (ns : List (List ℕ)) (nodes : List Node)
    (r : Result QueryText LimitFault) → is_err r ≡ true → query_fits first g ≡ false → QueryCopied first g ns nodes r
query_uncopied first g ns nodes (Ok t) e h = absurd (false≢true e)
query_uncopied first g ns nodes (Err f) e h = h

pub rule_uncopied : (first : List (List ℕ)) (h b : Written) (ns : List (List ℕ)) (nodes : List Node)
    (r : Result RuleText LimitFault) → is_err r ≡ true → rule_fits first h b ≡ false → RuleCopied first h b ns nodes r
rule_uncopied first h b ns nodes (Ok t) e f = absurd (false≢true e)
rule_uncopied first h b ns nodes (Err l) e f = f

pub query_copied : (first : List (List ℕ)) (g : Written) (ns : List (List ℕ)) (nodes after : List Node) (p x n : ℕ)
    → stack_fits first (g ∷ []) ≡ true → Tabled ns → meaning ns nodes p ≡ numbered [] g → n ≡ length (met [] g)
    → CopyOf Standard goal_form nodes p 256 [] after (Some x) → length after ≤ 256
    → CopiedQuery first g ns after (record { goal = x; variables = n })
query_copied first g ns nodes after p x n fits tabled is en copy few =
    let good = tabled_standard ns tabled in
    let size = copy.1.grown ns good in
    let same = ap (λ t. term.size (goal_form t)) is in
    record {
      fits = query_fits_from first g (fits_parts first (g ∷ []) fits) (omega arith);
      goal_is = copy.1.means ns good ∙ ap goal_form is;
      variables_are = en;
    }

pub query_refused : (first : List (List ℕ)) (g : Written) (ns : List (List ℕ)) (nodes after : List Node) (p : ℕ)
    → Tabled ns → p < length nodes → meaning ns nodes p ≡ numbered [] g
    → CopyOf Standard goal_form nodes p 256 [] after None → query_fits first g ≡ false
query_refused first g ns nodes after p tabled l is copy =
    let large = copy.1 l ns (tabled_standard ns tabled) in
    let same = ap (λ t. term.size (goal_form t)) is in
    query_large first g (omega arith)

pub rule_copied : (first : List (List ℕ)) (h b : Written) (ns : List (List ℕ)) (nodes mid after : List Node) (p q x y n : ℕ)
    → stack_fits first (b ∷ h ∷ []) ≡ true → Tabled ns → Two ns nodes p q h b → n ≡ length (met (met [] h) b)
    → CopyOf Any (λ t. t) nodes p 256 [] mid (Some x) → CopyOf Standard goal_form nodes q 256 mid after (Some y)
    → length after ≤ 256
    → CopiedRule first h b ns after (record { head = x; body = y; variables = n })
rule_copied first h b ns nodes mid after p q x y n fits tabled two en one other few =
    let good = tabled_standard ns tabled in
    let size = one.1.grown ns tt in
    let more = other.1.grown ns good in
    let same = ap (λ t. term.size t) two.head_is in
    let same' = ap (λ t. term.size (goal_form t)) two.body_is in
    let last = one.1.last in
    let below : x < length mid = omega arith in
    record {
      fits = rule_from first h b (fits_parts first (b ∷ h ∷ []) fits) (omega arith);
      head_is = meaning_front ns mid after other.1.kept x below ∙ one.1.means ns tt ∙ two.head_is;
      body_is = other.1.means ns good ∙ ap goal_form two.body_is;
      variables_are = en;
    }

pub head_refused : (first : List (List ℕ)) (h b : Written) (ns : List (List ℕ)) (nodes mid : List Node) (p q : ℕ)
    → Two ns nodes p q h b → CopyOf Any (λ t. t) nodes p 256 [] mid None → rule_fits first h b ≡ false
head_refused first h b ns nodes mid p q two copy =
    let large = copy.1 two.head_in ns tt in
    let same = ap (λ t. term.size t) two.head_is in
    rule_large first h b (omega arith)

pub body_refused : (first : List (List ℕ)) (h b : Written) (ns : List (List ℕ)) (nodes mid after : List Node) (p q x : ℕ)
    → Tabled ns → Two ns nodes p q h b → CopyOf Any (λ t. t) nodes p 256 [] mid (Some x)
    → CopyOf Standard goal_form nodes q 256 mid after None → rule_fits first h b ≡ false
body_refused first h b ns nodes mid after p q x tabled two one copy =
    let large = copy.1 two.body_in ns (tabled_standard ns tabled) in
    let size = one.1.grown ns tt in
    let same = ap (λ t. term.size t) two.head_is in
    let same' = ap (λ t. term.size (goal_form t)) two.body_is in
    rule_large first h b (omega arith)

-- faults told by nodes

count_numbered : (e : Met) (ts : Writtens) → term.count (numbered_all e ts) ≡ size ts
count_numbered e nil = refl
count_numbered e (cons t ts) = ap suc (count_numbered (met e t) ts)

abbrev head_alone : Written → Option HeadFault
head_alone (var a) = Some VariableHead
head_alone (int a) = Some IntegerHead
head_alone (app f ts) = cond (is_built_in f (size ts)) (Some BuiltInHead) None

head_node : (ns : List (List ℕ)) (ts : List Term) (e : Met) (j : ℕ) (x : Node) (h : Written) → Tabled ns
    → fitting j x ≡ true → Eight (Some x) → build ns ts x ≡ numbered e h → head_node_fault (Some x) ≡ head_alone h
head_node ns ts e j (Var v) (var a) tabled fit eight is = refl
head_node ns ts e j (Var v) (int a) tabled fit eight is = let z : ◌≡◌ {A = ℕ} 0 1 = cc in absurd (omega arith)
head_node ns ts e j (Var v) (app f us) tabled fit eight is = let z : ◌≡◌ {A = ℕ} 0 1 = cc in absurd (omega arith)
head_node ns ts e j (Int i) (var a) tabled fit eight is = let z : ◌≡◌ {A = ℕ} 0 1 = cc in absurd (omega arith)
head_node ns ts e j (Int i) (int a) tabled fit eight is = refl
head_node ns ts e j (Int i) (app f us) tabled fit eight is = let z : ◌≡◌ {A = ℕ} 0 1 = cc in absurd (omega arith)
head_node ns ts e j (App g n is') (var a) tabled fit eight is = let z : ◌≡◌ {A = ℕ} 0 1 = cc in absurd (omega arith)
head_node ns ts e j (App g n is') (int a) tabled fit eight is = let z : ◌≡◌ {A = ℕ} 0 1 = cc in absurd (omega arith)
head_node ns ts e j (App g n is') (app f us) tabled fit eight is =
    let name : get_or ns g [] ≡ f = cc in
    let args : terms_at ts (take n is') ≡ numbered_all e us = cc in
    let few = (fitting_args j g n is' fit).0 in
    let a = ap term.count args ∙ count_numbered e us in
    let d = count_terms_at ts (take n is') in
    let l = length-take n is' in
    let m : n ≡ size us = omega arith in
    ap (λ b. cond b (Some BuiltInHead) None) (built_in_tabled ns tabled g n ∙ ap (λ f. is_built_in f n) name
    ∙ ap (is_built_in f) m)

body_node : (ns : List (List ℕ)) (ts : List Term) (e : Met) (x : Node) (b : Written)
    → build ns ts x ≡ numbered e b → body_node_fault (Some x) ≡ body_fault b
body_node ns ts e (Var v) (var a) is = refl
body_node ns ts e (Var v) (int a) is = let z : ◌≡◌ {A = ℕ} 0 1 = cc in absurd (omega arith)
body_node ns ts e (Var v) (app f us) is = refl
body_node ns ts e (Int i) (var a) is = let z : ◌≡◌ {A = ℕ} 0 1 = cc in absurd (omega arith)
body_node ns ts e (Int i) (int a) is = refl
body_node ns ts e (Int i) (app f us) is = let z : ◌≡◌ {A = ℕ} 0 1 = cc in absurd (omega arith)
body_node ns ts e (App g n is') (var a) is = refl
body_node ns ts e (App g n is') (int a) is = let z : ◌≡◌ {A = ℕ} 0 1 = cc in absurd (omega arith)
body_node ns ts e (App g n is') (app f us) is = refl

head_fault_first : (h b : Written) → head_fault h b ≡ first_of (head_alone h) (body_fault b)
head_fault_first (var a) b = refl
head_fault_first (int a) b = refl
head_fault_first (app f ts) b = pick (is_built_in f (size ts)) (body_fault b)
  where
    pick : (c : Bool) (o : Option HeadFault) → cond c (Some BuiltInHead) o ≡ first_of (cond c (Some BuiltInHead) None) o
    pick true o = refl
    pick false o = refl

node_at_in : (nodes : List Node) (i : ℕ) → i < length nodes → node_at nodes i ≡ Some (get_or nodes i no_node)
node_at_in nodes i l = cond-true (ltb i (length nodes)) (Some (get_or nodes i no_node)) None (lt-ltb i (length nodes) l)

pub rule_fault : (h b : Written) (ns : List (List ℕ)) (nodes : List Node) (p q : ℕ)
    → Two ns nodes p q h b → Tabled ns → fitting_from 0 nodes ≡ true → Eight (node_at nodes p)
    → nodes_fault nodes p q ≡ head_fault h b
rule_fault h b ns nodes p q two tabled fit eight =
    let x = get_or nodes p no_node in
    let y = get_or nodes q no_node in
    let Q : Option Node → Type 0 = Eight in
    let eight' : Eight (Some x) = subst Q (node_at_in nodes p two.head_in) eight in
    ap (λ o. first_of (head_node_fault o) (body_node_fault (node_at nodes q))) (node_at_in nodes p two.head_in)
    ∙ ap (λ o. first_of (head_node_fault (Some x)) (body_node_fault o)) (node_at_in nodes q two.body_in)
    ∙ ap (λ o. first_of o (body_node_fault (Some y)))
    (head_node ns (meanings ns nodes) [] p x h tabled (fitting_from_at nodes fit p two.head_in) eight'
    (sym (meaning_build ns nodes fit p two.head_in) ∙ two.head_is))
    ∙ ap (first_of (head_alone h)) (body_node ns (meanings ns nodes) (met [] h) y b
    (sym (meaning_build ns nodes fit q two.body_in) ∙ two.body_is))
    ∙ sym (head_fault_first h b)
