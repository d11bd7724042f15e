-- Behind a name: a bracket that follows directly holds its arguments; else the name is a whole term.
use Rattle.std.proofs.Common.{◌≡◌, ℕ, Bool, true, false, cond, ◌&&◌, List, [], ◌∷◌, ◌++◌, Some, None, Option, sym, refl}
use Rattle.std.proofs.Common.{ap, ◌∙◌, arith}
use Rattle.tokens.specs.declared.kind.Kind.{Kind}
use Rattle.tokens.specs.declared.kind.Kind.TheVariants.{Small, Capital, Digit, Symbol, Solo, Quote, Opening}
use Rattle.tokens.specs.declared.kind.Kind.TheVariants.{Closing, Left, Right, Bar, Comma, Stop, Space, Stray}
use Rattle.tokens.specs.Bytes.{class, space, digit, symbol, same}
use Rattle.tokens.specs.Token.{Token, name, neck, opening, closing, right, bar, comma, stop, run, neck_bytes}
use Rattle.tokens.specs.Token.{minus_bytes}
use Rattle.tokens.specs.Token.{Part, digits, symbols, single, Edge, spaced, joined, is_joined, may_part}
use Rattle.tokens.specs.Scanning.{head_kind}
use Rattle.grammar.specs.Written.{app, nil, Sentence}
use Rattle.grammar.specs.Machine.{Lex, edge, within, at, VerdictOf, bad, hope, check, fresh, step_by, allowed_by}
use Rattle.grammar.specs.Machine.{allowed_at}
use Rattle.grammar.specs.Machine.{finished, verdict, onward}
use Rattle.grammar.specs.Sentences.{Context, arguments, Place, named, after, bracket, feed, sentences}
use Rattle.grammar.specs.Places.{taken_or, tail_of}
use Rattle.grammar.proofs.KindProperties.{no_space}
use Rattle.grammar.proofs.StepProperties.{stepped, at_edge, begun, single_taken}

pub named_open : (m n : ℕ) (a : List ℕ) (x : Context) (s : List ℕ) → head_kind s ≡ Opening
    → onward sentences m (Some (named a n x)) s ≡ taken_or n (bracket n (arguments a x)) s (tail_of s)
named_open m n a x [] h = let z : ◌≡◌ {A = ℕ} 0 1 = cc in absurd (omega arith)
named_open m n a x (c ∷ s) h =
    ap (λ b. at_edge b joined (named a n x) c s) (no_space c (λ e. apart (sym h ∙ e)))
    ∙ ap (λ k. begun k joined (named a n x) c s) h
    ∙ single_taken (opening true) (named a n x) n c s
  where
    apart : Opening ≡ Space → ⊥
    apart e = let z : ◌≡◌ {A = ℕ} 0 1 = cc in omega arith

-- the name before a bracket may follow, and as a whole term
module _ (n : ℕ) (a : List ℕ) (x : Context) where
  abbrev bare : Place
  bare = named a n x

  abbrev whole : Place
  whole = after (app a nil) n x

  run_fed : (bs : List ℕ) → feed bare (run bs) ≡ feed whole (run bs)
  run_fed bs = go (same bs neck_bytes)
    where
      go : (b : Bool) → feed bare (cond b neck (name bs)) ≡ feed whole (cond b neck (name bs))
      go true = refl
      go false = refl

  allowed_fed : (m : Option Place) → allowed_by sentences m bare ≡ allowed_by sentences m whole
  allowed_fed None = refl
  allowed_fed (Some p) = refl

  run_allowed : (bs : List ℕ) → allowed_at sentences (within (symbols bs)) bare ≡ allowed_at sentences (within (symbols bs)) whole
  run_allowed bs = ap (λ m. allowed_by sentences m bare) (run_fed bs) ∙ allowed_fed (feed whole (run bs))

  kept_same : (b : Bool) (q : Lex) (k c : ℕ) (s : List ℕ) → verdict sentences s q bare ≡ verdict sentences s q whole
      → stepped (cond b (Some (at q bare)) None) k c s ≡ stepped (cond b (Some (at q whole)) None) k c s
  kept_same true q k c s h = h
  kept_same false q k c s h = refl

  -- one more byte behind symbols, by whether it is a symbol or the first digit behind a sign
  abbrev behind_symbols : Place → List ℕ → ℕ → List ℕ → Bool → Bool → VerdictOf Sentence
  behind_symbols p bs c s b d =
      let m : Option Part = cond b (Some (symbols (bs ++ c ∷ []))) (cond d (Some (digits (bs ++ c ∷ []))) None) in
      stepped (step_by sentences m (symbols bs) p c) (allowed_at sentences (within (symbols bs)) p) c s

  abbrev SymbolsSame : List ℕ → List ℕ → Type 0
  SymbolsSame s bs = verdict sentences s (within (symbols bs)) bare ≡ verdict sentences s (within (symbols bs)) whole

  symbols_same : (s bs : List ℕ) → SymbolsSame s bs
  symbols_same [] bs = ap (finished sentences n) (run_fed bs)
  symbols_same (c ∷ s) bs = go (symbol c) (same bs minus_bytes && digit c) (symbols_same s (bs ++ c ∷ []))
    where
      go : (b d : Bool) → SymbolsSame s (bs ++ c ∷ []) → behind_symbols bare bs c s b d ≡ behind_symbols whole bs c s b d
      go true d ih =
          kept_same (hope sentences (within (symbols (bs ++ c ∷ []))) bare) (within (symbols (bs ++ c ∷ [])))
          (allowed_at sentences (within (symbols bs)) bare) c s ih
          ∙ ap (λ k. stepped (check sentences (within (symbols (bs ++ c ∷ []))) whole) k c s) (run_allowed bs)
      go false true ih = ap (λ k. bad k (c ∷ s)) (run_allowed bs)
      go false false ih =
          ap (λ m. stepped (fresh sentences m c) (allowed_at sentences (within (symbols bs)) bare) c s) (run_fed bs)
          ∙ ap (λ k. stepped (fresh sentences (feed whole (run bs)) c) k c s) (run_allowed bs)

  one_same : (t : Token) (c : ℕ) (s : List ℕ) → feed bare t ≡ feed whole t
      → stepped (check sentences (within (single t)) bare) n c s ≡ stepped (check sentences (within (single t)) whole) n c s
  one_same t c s h = single_taken t bare n c s ∙ ap (λ m. taken_or n m (c ∷ s) s) h ∙ sym (single_taken t whole n c s)

  begun_same : (k : Kind) (e : Edge) (c : ℕ) (s : List ℕ) → (k ≡ Opening → is_joined e ≡ false)
      → begun k e bare c s ≡ begun k e whole c s
  begun_same Small e c s h = refl
  begun_same Capital e c s h = refl
  begun_same Digit e c s h = refl
  begun_same Symbol e c s h =
      kept_same (hope sentences (within (symbols (c ∷ []))) bare) (within (symbols (c ∷ []))) n c s (symbols_same s (c ∷ []))
  begun_same Solo e c s h = refl
  begun_same Quote e c s h = refl
  begun_same Opening e c s h = one_same (opening (is_joined e)) c s (ap (λ b. feed bare (opening b)) (h refl))
  begun_same Closing e c s h = one_same closing c s refl
  begun_same Left e c s h = refl
  begun_same Right e c s h = one_same right c s refl
  begun_same Bar e c s h = one_same bar c s refl
  begun_same Comma e c s h = one_same comma c s refl
  begun_same Stop e c s h = one_same stop c s refl
  begun_same Space e c s h = refl
  begun_same Stray e c s h = refl

  edge_same : (b : Bool) (e : Edge) (c : ℕ) (s : List ℕ) → begun (class c) e bare c s ≡ begun (class c) e whole c s
      → verdict sentences s (edge spaced) bare ≡ verdict sentences s (edge spaced) whole
      → at_edge b e bare c s ≡ at_edge b e whole c s
  edge_same true e c s g ih = kept_same (may_part e) (edge spaced) n c s ih
  edge_same false e c s g ih = g

  spaced_same : (s : List ℕ) → verdict sentences s (edge spaced) bare ≡ verdict sentences s (edge spaced) whole
  spaced_same [] = refl
  spaced_same (c ∷ s) = edge_same (space c) spaced c s (begun_same (class c) spaced c s (λ e. refl)) (spaced_same s)

  whole_name : (m : ℕ) (s : List ℕ) → (head_kind s ≡ Opening → ⊥)
      → onward sentences m (Some bare) s ≡ onward sentences m (Some whole) s
  whole_name m [] h = refl
  whole_name m (c ∷ s) h = edge_same (space c) joined c s (begun_same (class c) joined c s (λ e. absurd (h e))) (spaced_same s)

pub named_else : (m n : ℕ) (a : List ℕ) (x : Context) (s : List ℕ) → (head_kind s ≡ Opening → ⊥)
    → onward sentences m (Some (named a n x)) s ≡ onward sentences m (Some (after (app a nil) n x)) s
named_else m n a x s h = whole_name n a x m s h
