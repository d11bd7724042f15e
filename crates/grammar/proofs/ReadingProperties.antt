-- The reader of bytes is right about every text: what it reads is what the grammar has there, and where it stops is
-- the least place where no text goes on, with the brackets open there.
use Rattle.std.proofs.Common.{◌≡◌, ℕ, suc, ◌+◌, ◌-◌, ◌≤◌, List, [], ◌∷◌, ◌++◌, length, take, sym, refl, ap, ◌∙◌, subst}
use Rattle.std.proofs.Common.{append_assoc, append-nil, arith, length-append}
use lib.Seq.{take-append_seam}
use Rattle.tokens.specs.Token.{first}
use Rattle.grammar.specs.Written.{Sentence}
use Rattle.grammar.specs.Grammar.{Goal, Text, Begins, brackets}
use Rattle.grammar.specs.Machine.{VerdictOf, good, bad, edge}
use Rattle.grammar.specs.Sentences.{sentences, begin}
use Rattle.grammar.specs.Faults.{Fails, open_brackets}
use Rattle.grammar.specs.Theorem.{judged, StopsAt, Judged, reads, fails_at_end, fails_at, Exact, OneSentence, AllRead}
use Rattle.grammar.proofs.LexingProperties.{bad_is_not_good}
use Rattle.grammar.proofs.RowProperties.{row_to, row_from}
use Rattle.grammar.proofs.LeastProperties.{Follows, a_byte, Stuck, stuck}
use Rattle.grammar.proofs.EveryToken.{stops_at}
use Rattle.grammar.proofs.BracketProperties.{begin_hopes, brackets_counted}
use Rattle.grammar.proofs.BlameProperties.{take_one_more}
use Rattle.grammar.proofs.SentenceTo.{sentence_to}
use Rattle.grammar.proofs.SentenceFrom.{sentence_from}
use Rattle.grammar.proofs.CompletingProperties.{sentences_lawful}

-- a text is read, and what is read is a text
pub all_read : AllRead
all_read g s x t = row_to sentences sentences_lawful t.row (begin g) x (sentence_to t.sentence)

pub read_is_text : (g : Goal) (s : List ℕ) (x : Sentence) → judged g s ≡ good x → Text g s x
read_is_text g s x h =
    let y = row_from sentences sentences_lawful s first (begin g) x h in
    record { tokens = y.tokens; row = y.row; sentence = sentence_from g y.tokens x y.fed }

pub one_sentence : OneSentence
one_sentence g s x y t u =
    let h = all_read g s x t in
    let k = all_read g s y u in
    cc

-- where the machine is stuck the text fails

abbrev StuckAt : Goal → List ℕ → ℕ → List ℕ → Type 0
StuckAt g s n x = Stuck sentences s (edge first) (begin g) n x

before_begins : (g : Goal) (s : List ℕ) (n : ℕ) (x : List ℕ) (z : StuckAt g s n x)
    → Begins g (take (suc (length z.before) - 1) s)
before_begins g s n x z =
    let m : suc (length z.before) - 1 ≡ length z.before = omega arith in
    let e : take (suc (length z.before) - 1) s ≡ z.before =
    ap (λ k. take k s) m ∙ ap (take (length z.before)) z.split ∙ take-append_seam z.before x in
    subst (Begins g) (sym e)
    (record {
      further = z.further;
      of = z.read;
      text = read_is_text g (z.before ++ z.further) z.read z.whole;
    })

no_more_begins : (g : Goal) (s : List ℕ) (n : ℕ) (u : List ℕ) (c : ℕ) (y : List ℕ) → s ≡ u ++ c ∷ y
    → ((w : List ℕ) → judged g (u ++ c ∷ w) ≡ bad n (c ∷ w)) → Begins g (take (suc (length u)) s) → ⊥
no_more_begins g s n u c y i f b =
    let e : take (suc (length u)) s ≡ u ++ c ∷ [] = ap (take (suc (length u))) i ∙ take_one_more u c y in
    let a : take (suc (length u)) s ++ b.further ≡ u ++ c ∷ b.further =
    ap (λ l. l ++ b.further) e ∙ append_assoc u (c ∷ []) b.further in
    bad_is_not_good (sym (f b.further) ∙ ap (judged g) (sym a) ∙ all_read g _ b.of b.text)

fails_behind : (g : Goal) (s : List ℕ) (n : ℕ) (x : List ℕ) → judged g s ≡ bad n x → (z : StuckAt g s n x)
    → Fails g s (suc (length z.before))
fails_behind g s n x h z =
    let l : length s ≡ length z.before + length x = ap length z.split ∙ length-append z.before x in
    record {
      no_text = λ y t. bad_is_not_good (sym h ∙ all_read g s y t);
      from_one = omega arith;
      to_end = omega arith;
      before = before_begins g s n x z;
      here = λ k b. stops x z.split z.follows k b;
    }
  where
    stops : (y : List ℕ) → s ≡ z.before ++ y
        → Follows sentences z.before (edge first) (begin g) z.lex z.place n y
        → suc (length z.before) ≤ length s → Begins g (take (suc (length z.before)) s) → ⊥
    stops [] i k j b =
        let l : length s ≡ length z.before + 0 = ap length i ∙ length-append z.before [] in omega arith
    stops (c ∷ y) i (a_byte e f) j b = no_more_begins g s n z.before c y i f b

counted : (g : Goal) (s : List ℕ) (n : ℕ) (x : List ℕ) (z : StuckAt g s n x) → n + open_brackets z.before ≡ brackets
counted g s n x z = ap (λ k. k + open_brackets z.before) z.allows ∙ brackets_counted g z.leads

bad_is_judged : (g : Goal) (s : List ℕ) (n : ℕ) (x : List ℕ) → judged g s ≡ bad n x → Judged g s (bad n x)
bad_is_judged g s n x h = go x (stuck sentences sentences_lawful s (edge first) (begin g) n x (begin_hopes g) h) h
  where
    go : (y : List ℕ) → StuckAt g s n y → judged g s ≡ bad n y → Judged g s (bad n y)
    go [] z k =
        let e : z.before ≡ s = sym (append-nil z.before) ∙ sym z.split in
        fails_at_end (subst (λ u. Fails g s (suc (length u))) e (fails_behind g s n [] k z))
        (subst (λ u. n + open_brackets u ≡ brackets) e (counted g s n [] z))
    go (c ∷ y) z k =
        fails_at z.split (fails_behind g s n (c ∷ y) k z) (counted g s n (c ∷ y) z) (at_byte z.follows)
      where
        at_byte : Follows sentences z.before (edge first) (begin g) z.lex z.place n (c ∷ y)
            → StopsAt z.before c
        at_byte (a_byte e f) = stops_at sentences c z.leads z.hopes e

pub exact : Exact
exact g s = go (judged g s) refl
  where
    go : (v : VerdictOf Sentence) → judged g s ≡ v → Judged g s v
    go (good x) h = reads (read_is_text g s x h)
    go (bad n x) h = bad_is_judged g s n x h
