-- The plain form of document 01's deck and of one whose records are out of order, computed from the definitions.
use mathlib.Core.Path.{◌≡◌, refl}
use mathlib.Core.List.{[], ◌∷◌, flatten}
use Rattle.seed.specs.Tab.{tab}
use Rattle.deck.specs.Deck.{number16, number32, signed, seed_record, pair_record, seed_count, zero_byte, pair_count, seed_records, pair_records, bad_layout, record_of, is_in, at_index, walk, seed_walk, walks, all_in, rows_by, settled, deck_reading}
use Rattle.deck.specs.Handed.{rows_in}
use Rattle.deck.proofs.Examples.{paper, paper_seeds, two}
use Rattle.plain.specs.Plain.{unsigned, bytes16, bytes32, seed_bytes, pair_bytes, deck_of_records, plain_chain, plain_pairs, plain_seeds, plain_of}

-- The plain form of document 01's seeds is its deck; records in reverse order are put in order, and a score of −1 is all ones.
plain : (plain_of paper_seeds ≡ paper) × (plain_of (rows_in (deck_reading (two 2 0 1))) ≡ 1 ∷ 0 ∷ 0 ∷ 2 ∷ 255 ∷ 255 ∷ 255 ∷ 255 ∷ 0 ∷ 1 ∷ 7 ∷ 8 ∷ 0 ∷ 2 ∷ 5 ∷ 6 ∷ 0 ∷ 0 ∷ [])
unfolding deck_reading bad_layout seed_count zero_byte pair_count number16 number32 signed seed_records pair_records seed_record pair_record tab record_of is_in at_index walk seed_walk walks all_in rows_by settled flatten unsigned bytes16 bytes32 seed_bytes pair_bytes deck_of_records plain_chain plain_pairs plain_seeds plain_of
plain = (refl, refl)
