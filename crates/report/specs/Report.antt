-- What the clip program says of the bytes that it has read (document 01, "The clip envelope"): one line, `genuine S L` or `refused R`.
-- Assumes nothing.
use Rattle.std.specs.Prelude.{cond, List, [], ◌∷◌, ◌++◌, ℕ, eqb, Result, Ok, Err}
use Rattle.refusals.specs.Refusals.{done, or_else, refusal_number}
use Rattle.refusals.specs.declared.Refusal.{Refusal}
use Rattle.envelope.specs.declared.Header.{Header}
use Rattle.envelope.specs.Envelope.{header_of, read_number, key_bytes, signature_bytes, message_bytes}
use Rattle.biscuit.specs.Desk.{accept_number}
use Rattle.report.specs.Decimal.{decimal}

-- ---- the line

-- `genuine` and a space
unfoldable pub genuine_word : List ℕ
genuine_word = 103 ∷ 101 ∷ 110 ∷ 117 ∷ 105 ∷ 110 ∷ 101 ∷ 32 ∷ []

-- `refused` and a space
unfoldable pub refused_word : List ℕ
refused_word = 114 ∷ 101 ∷ 102 ∷ 117 ∷ 115 ∷ 101 ∷ 100 ∷ 32 ∷ []

-- a space, and the end of the line
abbrev pub space : List ℕ
space = 32 ∷ []

abbrev pub line_end : List ℕ
line_end = 10 ∷ []

-- "`genuine S L` (set and message length in decimal)"
unfoldable pub genuine_line : Header → List ℕ
genuine_line h = genuine_word ++ (decimal h.set ++ (space ++ (decimal h.length ++ line_end)))

-- "`refused R` (number below)"
unfoldable pub refused_line : ℕ → List ℕ
refused_line number = refused_word ++ (decimal number ++ line_end)

-- the line for a number, and for the header that was read
unfoldable pub said : ℕ → Header → List ℕ
said number h = cond (eqb number done) (genuine_line h) (refused_line number)

-- the line for an answer: the header of a genuine clip, or why it is refused
abbrev pub answer_line : Result Header Refusal → List ℕ
answer_line (Ok h) = genuine_line h
answer_line (Err refusal) = refused_line (refusal_number refusal)

-- ---- the clip program: reading, "the program's verification follows"

-- "It reads at most 65,536 bytes"
abbrev pub input_limit : ℕ
input_limit = 65536

-- the number of what stands on the input
unfoldable pub clip_number : List ℕ → ℕ
clip_number e = or_else (read_number e) (accept_number (header_of e).set (key_bytes e) (message_bytes e) (signature_bytes e))

-- its line
unfoldable pub clip_line : List ℕ → List ℕ
clip_line e = said (clip_number e) (header_of e)
