-- Inputs with an empty text (document 02, f): a text that is missing is an empty one, so that an input which ends before its deck is told by ground 5.
use mathlib.Core.Path.{◌≡◌, refl, sym}
use mathlib.Core.Bool.{Bool, true, false, cond}
use mathlib.Core.List.Memᴰ
use mathlib.Core.List.{List, [], ◌∷◌, flatten}
use Prim.Native.Nat.{ℕ}
use lib.Dec.{eqb}
use lib.ListN.{replicate}
use borrow.Author.Tests.{eqb-true}
use Rattle.write.specs.Decimal.{bytes, digits}
use Rattle.decimal.specs.Score.{two_digits, unsigned_text, number_text}
use Rattle.tree.specs.Run.{Run}
use Rattle.character.specs.Character.{meaning_of}
use Rattle.tree.specs.Reading.{Spells, bad_length, reading}
use Rattle.tree.proofs.Grounds.{accepted_exactly}
use Rattle.seed.specs.Seed.{◌∈◌}
use Rattle.seed.specs.Tab.{tab}
use Rattle.optimum.specs.Key.{in_mask, empty}
use Rattle.optimum.specs.Best.{best}
use Rattle.best.specs.Best.{key_of}
use Rattle.deck.specs.Deck.{number16, seed_count, zero_byte, pair_count, seed_records, pair_records, bad_layout, walks, rows_by, all_in, settled, deck_reading}
use Rattle.dealing.specs.Texts.{both_read}
use Rattle.dealing.specs.Seeds.{seeds_answer}
use Rattle.dealing.specs.Deal.{deck_answer, deal_answer, deal_of}
use Rattle.chain.specs.Opening.{deck_opening}
use Rattle.lines.specs.Lines.{score_line, member, members, chain_line, result_lines, place_words, refusal_line}
use Rattle.report.specs.Input.{read_bytes, ahead, behind, text_q, text_t, deck_bytes}
use Rattle.report.specs.Report.{outcome_of, lines_of}

-- Nothing stands behind the first line feed where there is none.
no_feed : (s : List ℕ) → ¬ (10 ∈ s) → behind s ≡ []
unfolding behind
no_feed [] none = refl
no_feed (b ∷ s) none = go (eqb b 10) refl (no_feed s (λ m. none (Memᴰ.tail m)))
  where
    go : (t : Bool) → eqb b 10 ≡ t → behind s ≡ [] → cond t s (behind s) ≡ []
    go true e rest = absurd (none (Memᴰ.head (sym (eqb-true b 10 e))))
    go false e rest = rest

-- Where the texts are good, an input that ends before its deck is refused on 5, and so is one without a second line feed.
pub no_deck : (input : List ℕ) {r p : Run} → Spells r (text_q input) → Spells p (text_t input) → deck_bytes input ≡ [] → lines_of input ≡ bytes "refused 5\n"
unfolding lines_of outcome_of deck_opening deal_of deal_answer both_read deck_answer deck_reading bad_layout refusal_line place_words digits
no_deck input {r} {p} q t none = rw ((accepted_exactly (text_q input) r).1 q, (accepted_exactly (text_t input) p).1 t, none)

pub no_second_feed : (input : List ℕ) {r p : Run} → Spells r (text_q input) → Spells p (text_t input) → ¬ (10 ∈ behind (read_bytes input)) → lines_of input ≡ bytes "refused 5\n"
no_second_feed input q t none = no_deck input q t (no_feed (behind (read_bytes input)) none)

-- Inputs with empty texts, computed from the definitions: none at all, one text with and without its line feed, both line feeds and no deck, a T of 256 dots
-- behind an empty Q, a bracket never closed in front of nothing, and two empty texts with an empty deck.
pub empty_printed :
    lines_of []
    ∷ lines_of (bytes ".")
    ∷ lines_of (bytes ".\n")
    ∷ lines_of (bytes "\n\n")
    ∷ lines_of (10 ∷ replicate 256 46)
    ∷ lines_of (bytes "(")
    ∷ lines_of (10 ∷ 10 ∷ replicate 4 0)
    ∷ []
    ≡ bytes "refused 5\n"
    ∷ bytes "refused 5\n"
    ∷ bytes "refused 5\n"
    ∷ bytes "refused 5\n"
    ∷ bytes "refused 1 T 0\n"
    ∷ bytes "refused 4 Q 0\n"
    ∷ bytes "score 0.00\nchain\n"
    ∷ []
unfolding lines_of outcome_of read_bytes ahead behind deck_opening deal_of deal_answer both_read reading bad_length meaning_of deck_answer deck_reading bad_layout refusal_line place_words result_lines score_line chain_line members member number_text unsigned_text two_digits digits seed_count zero_byte pair_count number16 seed_records pair_records walks settled all_in rows_by flatten seeds_answer key_of best empty in_mask tab
empty_printed = refl
