-- The worked cases of the label book, by computation.
use mathlib.Core.Path.{refl}
use Rattle.labels.specs.Label.{digit?, letter?, capital, label_form?}
use Rattle.label_book.specs.Reading.{label_byte?, text_byte?, line?, line_of, entries_from, book_of}
use Rattle.label_book.specs.Piece.{label_at?, piece_for}
use Rattle.claims.specs.BookCases.{BookCases}

pub book_cases : BookCases
unfolding digit? letter? capital label_form? label_byte? text_byte? line? line_of entries_from book_of label_at? piece_for
book_cases =
    record {
      west = refl;
      west_text = refl;
      small = refl;
      small_text = refl;
      not_listed = refl;
      digits = refl;
      in_word = refl;
      last_differs = refl;
      no_lines = refl;
      no_bytes = refl;
      line_end = refl;
      over_end = refl;
      last_byte = refl;
      behind_end = refl;
      far_behind = refl;
      too_long = refl;
      long_enough = refl;
      book_first = refl;
      one_byte = refl;
      sixty_bytes = refl;
      no_text = refl;
      sixty_one_bytes = refl;
      two_signs = refl;
      no_sign = refl;
      no_last_lf = refl;
      empty_line = refl;
      no_label = refl;
      wrong_label = refl;
      minus = refl;
      label_of-24 = refl;
      label_of-25 = refl;
      any_byte = refl;
      in_order = refl;
      by_capitals = refl;
      by_bytes = refl;
      longer_first = refl;
      letter_first = refl;
      twice = refl;
      twice_in_case = refl;
      bad_behind = refl;
    }
