-- What is written reads back: read from any place where a term must begin, the text of a term leads behind that term.
use Rattle.std.proofs.Common.{◌≡◌, ℕ, zero, suc, Bool, true, false, cond, ◌&&◌, List, [], ◌∷◌, ◌++◌, codes, sym, refl}
use Rattle.std.proofs.Common.{ap, ◌∙◌, subst, append_assoc, append-nil}
use Rattle.terms.specs.Known.{comma_name, dot_name, empty_name}
use Rattle.tokens.specs.Bytes.{same}
use Rattle.tokens.specs.Token.{opening, closing, left, right, comma, first, spaced, is_joined}
use Rattle.grammar.specs.Written.{Written, Writtens, var, int, app, nil, cons, join, with_last, pair, conj, list_of}
use Rattle.grammar.specs.Grammar.{brackets}
use Rattle.grammar.specs.Machine.{edge}
use Rattle.grammar.specs.Sentences.{operand, named, after, Context, head, among, body, goals, arguments, round, square}
use Rattle.writing.specs.Writing.{name_text, Form, constant, empty, list, conjunction, plain, form, Spot, alone}
use Rattle.writing.specs.Writing.{argument, in_list, in_conjunction, others, form_text, text_at, arguments_text}
use Rattle.writing.specs.Writing.{others_text, text}
use Rattle.writing.specs.ReadBack.{opens, room, inside, readable_at, arguments_readable, others_readable, readable}
use Rattle.writing.specs.ReadBack.{QueryReadsBack, FactReadsBack, RuleReadsBack}
use Rattle.writing.proofs.WholeTokens.{from, reading, false_true, and_both, single_on}
use Rattle.writing.proofs.WrittenTokens.{same_sound, name_on}
use Rattle.writing.proofs.BehindTerms.{join_assoc, list_nests, conj_nests, Behind, b_comma, b_closing, b_right, b_bar}
use Rattle.writing.proofs.BehindTerms.{b_stop, b_neck, cut_behind, name_cut, variable_cut, integer_cut, named_after}
use Rattle.writing.proofs.BehindTerms.{Leads, EndsList, EndsConjunction, operand_leads, as_tail, as_right}

-- what is proved of every term
record Reads (w : Written) : Type 0 where
  leads : (n : ℕ) → readable_at alone n w ≡ true → Leads (text_at alone w) w n
  ends_list : (n : ℕ) → readable_at in_list n w ≡ true → EndsList (text_at in_list w) w n
  ends_conjunction : (n : ℕ) → readable_at in_conjunction n w ≡ true → EndsConjunction (text_at in_conjunction w) w n

data AllRead : Writtens → Type 0 where
  none : AllRead nil
  some : {t : Written} {ts : Writtens} → Reads t → AllRead ts → AllRead (cons t ts)

var_reads : (a : List ℕ) → Reads (var a)
var_reads a = record {
  leads = λ n h e x r b. variable_cut (cut_behind b) e n x a h;
  ends_list = λ n h. as_tail a (var a) n (λ e x r b. variable_cut (cut_behind b) e n x a h);
  ends_conjunction = λ n h. as_right a (var a) n (λ e x r b. variable_cut (cut_behind b) e n x a h);
}

int_reads : (a : List ℕ) → Reads (int a)
int_reads a = record {
  leads = λ n h e x r b. integer_cut (cut_behind b) e n x a h;
  ends_list = λ n h. as_tail a (int a) n (λ e x r b. integer_cut (cut_behind b) e n x a h);
  ends_conjunction = λ n h. as_right a (int a) n (λ e x r b. integer_cut (cut_behind b) e n x a h);
}

-- the same of a name with arguments that is of a form
abbrev readable_as : Spot → ℕ → Form → Writtens → Bool
readable_as p n k ts = room (opens p k) n && arguments_readable (others k) (inside (opens p k) n) ts

abbrev text_as : Spot → Form → List ℕ → Writtens → List ℕ
text_as p k f ts = form_text p k f (arguments_text (others k) ts)

record ReadsAs (k : Form) (f : List ℕ) (ts : Writtens) : Type 0 where
  leads : (n : ℕ) → readable_as alone n k ts ≡ true → Leads (text_as alone k f ts) (app f ts) n
  ends_list : (n : ℕ) → readable_as in_list n k ts ≡ true → EndsList (text_as in_list k f ts) (app f ts) n
  ends_conjunction : (n : ℕ) → readable_as in_conjunction n k ts ≡ true
      → EndsConjunction (text_as in_conjunction k f ts) (app f ts) n

constant_leads : (f : List ℕ) (n : ℕ) → Leads (name_text f) (app f nil) n
constant_leads f n e x r b = name_cut (cut_behind b) e n x f ∙ named_after b f n

constant_reads : (f : List ℕ) → ReadsAs constant f nil
constant_reads f = record {
  leads = λ n h. constant_leads f n;
  ends_list = λ n h. as_tail (name_text f) (app f nil) n (constant_leads f n);
  ends_conjunction = λ n h. as_right (name_text f) (app f nil) n (constant_leads f n);
}

empty_leads : (n : ℕ) → readable_as alone n empty nil ≡ true → Leads (codes "[]") (app empty_name nil) n
empty_leads zero h e x r b = false_true h
empty_leads (suc n) h e x r b =
    single_on (93 ∷ r) left (operand (suc n) x) (operand n (among (square x) nil)) refl
    ∙ single_on r right (operand n (among (square x) nil)) (after (app empty_name nil) (suc n) x) refl

empty_reads : ReadsAs empty empty_name nil
empty_reads = record {
  leads = empty_leads;
  ends_list =
      λ n h x t us r. single_on r right (after t n (among (square x) us))
      (after (list_of (with_last us t) (app empty_name nil)) (suc n) x) refl;
  ends_conjunction = λ n h. as_right (codes "[]") (app empty_name nil) n (empty_leads n h);
}

-- an argument behind another
argument_text : (t : Written) → text_at argument t ≡ 44 ∷ text_at alone t
argument_text (var a) = refl
argument_text (int a) = refl
argument_text (app f ts) = refl

opens_alike : (k : Form) → opens argument k ≡ opens alone k
opens_alike constant = refl
opens_alike empty = refl
opens_alike list = refl
opens_alike conjunction = refl
opens_alike plain = refl

argument_readable : (n : ℕ) (t : Written) → readable_at argument n t ≡ readable_at alone n t
argument_readable n (var a) = refl
argument_readable n (int a) = refl
argument_readable n (app f ts) =
    ap (λ b. room b n && arguments_readable (others (form f ts)) (inside b n) ts) (opens_alike (form f ts))

others_behind : (ts : Writtens) (x : Context) (r : List ℕ) → Behind x (others_text argument ts ++ 41 ∷ r)
others_behind nil x r = b_closing
others_behind (cons (var a) ts) x r = b_comma
others_behind (cons (int a) ts) x r = b_comma
others_behind (cons (app f us) ts) x r = b_comma

others_on : {ts : Writtens} → AllRead ts
    → (f : List ℕ) (x : Context) (n : ℕ) (t : Written) (us : Writtens) (r : List ℕ)
    → others_readable argument n ts ≡ true
    → from (after t n (among (arguments f x) us)) (others_text argument ts ++ 41 ∷ r)
    ≡ from (after (app f (join us (cons t ts))) (suc n) x) r
others_on none f x n t us r h =
    single_on r closing (after t n (among (arguments f x) us)) (after (app f (with_last us t)) (suc n) x) refl
others_on (some {t = v} {ts = vs} here there) f x n t us r h =
    let b = and_both (readable_at argument n v) (others_readable argument n vs) h in
    ap (λ l. from (after t n (among (arguments f x) us)) ((l ++ others_text argument vs) ++ 41 ∷ r)) (argument_text v)
    ∙ single_on ((text_at alone v ++ others_text argument vs) ++ 41 ∷ r) comma (after t n (among (arguments f x) us))
    (operand n (among (arguments f x) (with_last us t))) refl
    ∙ ap (from (operand n (among (arguments f x) (with_last us t))))
    (append_assoc (text_at alone v) (others_text argument vs) (41 ∷ r))
    ∙ operand_leads (text_at alone v) v n (here.leads n (sym (argument_readable n v) ∙ b.0))
    (among (arguments f x) (with_last us t)) (others_text argument vs ++ 41 ∷ r)
    (others_behind vs (among (arguments f x) (with_last us t)) r)
    ∙ others_on there f x n v (with_last us t) r b.1
    ∙ ap (λ l. from (after (app f l) (suc n) x) r) (join_assoc us (cons t nil) (cons v vs))

-- a name with arguments in brackets
bracketed : (a t o r : List ℕ) → (a ++ codes "(" ++ (t ++ o) ++ codes ")") ++ r ≡ a ++ 40 ∷ (t ++ (o ++ 41 ∷ r))
bracketed a t o r = simp append_assoc

plain_leads : (f : List ℕ) {t : Written} {ts : Writtens} → Reads t → AllRead ts → (n : ℕ)
    → readable_as alone n plain (cons t ts) ≡ true → Leads (text_as alone plain f (cons t ts)) (app f (cons t ts)) n
plain_leads f {t} {ts} here there zero h e x r b = false_true h
plain_leads f {t} {ts} here there (suc n) h e x r b =
    let k = and_both (readable_at alone n t) (others_readable argument n ts) h in
    let o : List ℕ = others_text argument ts ++ 41 ∷ r in
    ap (λ l. reading l (edge e) (operand (suc n) x))
    (bracketed (name_text f) (text_at alone t) (others_text argument ts) r)
    ∙ name_on 40 (text_at alone t ++ o) (suc n) x refl e f
    ∙ single_on (text_at alone t ++ o) (opening true) (named f (suc n) x) (operand n (among (arguments f x) nil)) refl
    ∙ operand_leads (text_at alone t) t n (here.leads n k.0) (among (arguments f x) nil) o
    (others_behind ts (among (arguments f x) nil) r)
    ∙ others_on there f x n t nil r k.1

plain_reads : (f : List ℕ) {t : Written} {ts : Writtens} → Reads t → AllRead ts → ReadsAs plain f (cons t ts)
plain_reads f {t} {ts} here there = record {
  leads = plain_leads f here there;
  ends_list = λ n h. as_tail (text_as alone plain f (cons t ts)) (app f (cons t ts)) n (plain_leads f here there n h);
  ends_conjunction =
      λ n h. as_right (text_as alone plain f (cons t ts)) (app f (cons t ts)) n (plain_leads f here there n h);
}

-- a list
form_behind_in_list : (k : Form) (f s : List ℕ) (x : Context) (r : List ℕ) → Behind x (form_text in_list k f s ++ r)
form_behind_in_list constant f s x r = b_bar
form_behind_in_list empty f s x r = b_right
form_behind_in_list list f s x r = b_comma
form_behind_in_list conjunction f s x r = b_bar
form_behind_in_list plain f s x r = b_bar

behind_in_list : (u : Written) (x : Context) (r : List ℕ) → Behind x (text_at in_list u ++ r)
behind_in_list (var a) x r = b_bar
behind_in_list (int a) x r = b_bar
behind_in_list (app f ts) x r = form_behind_in_list (form f ts) f (arguments_text (others (form f ts)) ts) x r

two : (t u r : List ℕ) → (t ++ (u ++ [])) ++ r ≡ t ++ (u ++ r)
two t u r = simp (append-nil, append_assoc)

others_two : (p : Spot) (n : ℕ) (t u : Written) → readable_at alone n t && (readable_at p n u && true) ≡ true
    → (readable_at alone n t ≡ true) × (readable_at p n u ≡ true)
others_two p n t u h =
    let b = and_both (readable_at alone n t) (readable_at p n u && true) h in
    (b.0, (and_both (readable_at p n u) true b.1).0)

list_from : {t u : Written} → Reads t → Reads u → (n : ℕ) → arguments_readable in_list n (cons t (cons u nil)) ≡ true
    → (x : Context) (us : Writtens) (r : List ℕ)
    → from (operand n (among (square x) us)) (arguments_text in_list (cons t (cons u nil)) ++ r)
    ≡ from (after (list_of us (pair dot_name t u)) (suc n) x) r
list_from {t} {u} reads_t reads_u n h x us r =
    let k = others_two in_list n t u h in
    ap (from (operand n (among (square x) us))) (two (text_at alone t) (text_at in_list u) r)
    ∙ operand_leads (text_at alone t) t n (reads_t.leads n k.0) (among (square x) us) (text_at in_list u ++ r)
    (behind_in_list u (among (square x) us) r)
    ∙ reads_u.ends_list n k.1 x t us r
    ∙ ap (λ w. from (after w (suc n) x) r) (list_nests us t u)

list_leads : {t u : Written} → Reads t → Reads u → (n : ℕ) → readable_as alone n list (cons t (cons u nil)) ≡ true
    → Leads (text_as alone list dot_name (cons t (cons u nil))) (pair dot_name t u) n
list_leads {t} {u} reads_t reads_u zero h e x r b = false_true h
list_leads {t} {u} reads_t reads_u (suc n) h e x r b =
    single_on (arguments_text in_list (cons t (cons u nil)) ++ r) left (operand (suc n) x)
    (operand n (among (square x) nil)) refl
    ∙ list_from reads_t reads_u n h x nil r

list_reads : {t u : Written} → Reads t → Reads u → ReadsAs list dot_name (cons t (cons u nil))
list_reads {t} {u} reads_t reads_u = record {
  leads = list_leads reads_t reads_u;
  ends_list = λ n h x v us r.
      single_on (arguments_text in_list (cons t (cons u nil)) ++ r) comma (after v n (among (square x) us))
      (operand n (among (square x) (with_last us v))) refl
      ∙ list_from reads_t reads_u n h x (with_last us v) r;
  ends_conjunction =
      λ n h. as_right (text_as alone list dot_name (cons t (cons u nil))) (pair dot_name t u) n
      (list_leads reads_t reads_u n h);
}

-- a conjunction
form_behind_in_conjunction : (k : Form) (f s : List ℕ) (x : Context) (r : List ℕ)
    → Behind x (form_text in_conjunction k f s ++ r)
form_behind_in_conjunction constant f s x r = b_comma
form_behind_in_conjunction empty f s x r = b_comma
form_behind_in_conjunction list f s x r = b_comma
form_behind_in_conjunction conjunction f s x r = b_comma
form_behind_in_conjunction plain f s x r = b_comma

behind_in_conjunction : (u : Written) (x : Context) (r : List ℕ) → Behind x (text_at in_conjunction u ++ r)
behind_in_conjunction (var a) x r = b_comma
behind_in_conjunction (int a) x r = b_comma
behind_in_conjunction (app f ts) x r =
    form_behind_in_conjunction (form f ts) f (arguments_text (others (form f ts)) ts) x r

conjunction_from : {t u : Written} → Reads t → Reads u → (n : ℕ)
    → arguments_readable in_conjunction n (cons t (cons u nil)) ≡ true → (x : Context) (us : Writtens) (r : List ℕ)
    → from (operand n (among (round x) us)) (arguments_text in_conjunction (cons t (cons u nil)) ++ r)
    ≡ from (after (conj (with_last us (pair comma_name t u))) (suc n) x) r
conjunction_from {t} {u} reads_t reads_u n h x us r =
    let k = others_two in_conjunction n t u h in
    ap (from (operand n (among (round x) us))) (two (text_at alone t) (text_at in_conjunction u) r)
    ∙ operand_leads (text_at alone t) t n (reads_t.leads n k.0) (among (round x) us) (text_at in_conjunction u ++ r)
    (behind_in_conjunction u (among (round x) us) r)
    ∙ reads_u.ends_conjunction n k.1 x t us r
    ∙ ap (λ w. from (after w (suc n) x) r) (conj_nests us t u)

conjunction_leads : {t u : Written} → Reads t → Reads u → (n : ℕ)
    → readable_as alone n conjunction (cons t (cons u nil)) ≡ true
    → Leads (text_as alone conjunction comma_name (cons t (cons u nil))) (pair comma_name t u) n
conjunction_leads {t} {u} reads_t reads_u zero h e x r b = false_true h
conjunction_leads {t} {u} reads_t reads_u (suc n) h e x r b =
    single_on (arguments_text in_conjunction (cons t (cons u nil)) ++ r) (opening (is_joined e)) (operand (suc n) x)
    (operand n (among (round x) nil)) refl
    ∙ conjunction_from reads_t reads_u n h x nil r

conjunction_reads : {t u : Written} → Reads t → Reads u → ReadsAs conjunction comma_name (cons t (cons u nil))
conjunction_reads {t} {u} reads_t reads_u = record {
  leads = conjunction_leads reads_t reads_u;
  ends_list =
      λ n h. as_tail (text_as alone conjunction comma_name (cons t (cons u nil))) (pair comma_name t u) n
      (conjunction_leads reads_t reads_u n h);
  ends_conjunction = λ n h x v us r.
      single_on (arguments_text in_conjunction (cons t (cons u nil)) ++ r) comma (after v n (among (round x) us))
      (operand n (among (round x) (with_last us v))) refl
      ∙ conjunction_from reads_t reads_u n h x (with_last us v) r;
}

-- any name with arguments, by its form
form_reads : (f : List ℕ) {ts : Writtens} → AllRead ts → ReadsAs (form f ts) f ts
form_reads f none = go (same f empty_name) refl
  where
    go : (b : Bool) → same f empty_name ≡ b → ReadsAs (cond b empty constant) f nil
    go true e = subst (λ (g : List ℕ). ReadsAs empty g nil) (sym (same_sound f empty_name e)) empty_reads
    go false e = constant_reads f
form_reads f (some here none) = plain_reads f here none
form_reads f (some {t = t} here (some {t = u} there none)) = go (same f dot_name) refl (same f comma_name) refl
  where
    go : (b : Bool) → same f dot_name ≡ b → (d : Bool) → same f comma_name ≡ d
        → ReadsAs (cond b list (cond d conjunction plain)) f (cons t (cons u nil))
    go true e d g =
        subst (λ (g : List ℕ). ReadsAs list g (cons t (cons u nil))) (sym (same_sound f dot_name e))
        (list_reads here there)
    go false e true g =
        subst (λ (g : List ℕ). ReadsAs conjunction g (cons t (cons u nil))) (sym (same_sound f comma_name g))
        (conjunction_reads here there)
    go false e false g = plain_reads f here (some there none)
form_reads f (some here (some there (some more rest))) = plain_reads f here (some there (some more rest))

app_reads : (f : List ℕ) (ts : Writtens) → AllRead ts → Reads (app f ts)
app_reads f ts all =
    let r = form_reads f all in
    record { leads = r.leads; ends_list = r.ends_list; ends_conjunction = r.ends_conjunction }

mutual
  reads : (w : Written) → Reads w
  reads (var a) = var_reads a
  reads (int a) = int_reads a
  reads (app f ts) = app_reads f ts (all_read ts)

  all_read : (ts : Writtens) → AllRead ts
  all_read nil = none
  all_read (cons t ts) = some (reads t) (all_read ts)

-- the text of a term leads behind it, whatever stands around it
pub text_leads : (n : ℕ) (w : Written) → readable n w ≡ true → Leads (text w) w n
text_leads n w h = (reads w).leads n h

pub query_reads_back : QueryReadsBack
query_reads_back w h = text_leads brackets w h first (among goals nil) (46 ∷ []) b_stop

pub fact_reads_back : FactReadsBack
fact_reads_back w h = text_leads brackets w h first head (46 ∷ []) b_stop

rule_parts : (h b : List ℕ) → h ++ codes " :- " ++ b ++ codes "." ≡ h ++ (32 ∷ 58 ∷ 45 ∷ 32 ∷ b ++ 46 ∷ [])
rule_parts h b = simp append_assoc

pub rule_reads_back : RuleReadsBack
rule_reads_back h b k l =
    ap (λ s. reading s (edge first) (operand brackets head)) (rule_parts (text h) (text b))
    ∙ text_leads brackets h k first head (32 ∷ 58 ∷ 45 ∷ 32 ∷ text b ++ 46 ∷ []) b_neck
    ∙ text_leads brackets b l spaced (among (body h) nil) (46 ∷ []) b_stop
