-- [01 What is carried over; One segment] The helpers on bare text. Assumes nothing.
use Rattle.std.specs.Prelude.{Bool, true, ◌&&◌, not, List, ℕ, ◌-◌, ltb, length}
use Rattle.meaning.specs.Bytes.{◌!◌, part, ascii, has, quote, dquote}
use Rattle.std.specs.Prelude.{if◌then◌else◌}
use Rattle.meaning.specs.Chars.{fresh, utf8}
use Rattle.meaning.specs.Walk.{walk, stops}
use Rattle.meaning.specs.Steps.{escape_step, checked, unicode_step}
use Rattle.meaning.specs.Spelling.{Spelling, standard, escape, unicode, dollar, unspelt, encloses, argument, is_unicode, unicode_spelling}
use Rattle.meaning.specs.Reading.{Answer, refused, answer}

-- `uescape_argument_is_legal`; no on text that isn't UTF-8
unfoldable pub uescape_legal : List ℕ → Bool
uescape_legal t = utf8 t && ltb 0 (length (argument t))

-- `postgres_escape_string_is_valid`: yes for text outside its spelling, no on text that isn't UTF-8
unfoldable pub escape_valid : List ℕ → Bool
escape_valid t =
    utf8 t
    && (if has (t ! 0) (ascii "Ee") && encloses 1 quote t then not (stops (checked fresh (walk escape_step 0 (part 2 (length t - 1) t)))) else true)

-- what is said of U& by its escape character and body, and of a text that is not spelled so: `unicode_spelling` gives no other spelling
abbrev pub if_unicode : {A : Type 0} → (List ℕ → ℕ → ℕ → A) → A → Spelling → A
if_unicode f other (unicode e g u) = f e g u
if_unicode f other unspelt = other
if_unicode f other (standard q g u) = other
if_unicode f other (escape g u) = other
if_unicode f other (dollar g u) = other

-- `unicode_escape_string_is_valid`: yes for text outside its spelling, "a bad UESCAPE clause included"
abbrev pub unicode_valid_as : List ℕ → Spelling → Bool
unicode_valid_as t s = if_unicode (λ e f u. not (stops (walk (unicode_step e quote) 0 (part f u t)))) true s

unfoldable pub unicode_valid : List ℕ → Bool
unicode_valid t = utf8 t && unicode_valid_as t (unicode_spelling quote t)

-- `string_literal_embeds_nul`
abbrev pub embeds_nul : List ℕ → Bool
embeds_nul t = has 0 t

-- `is_unicode_ident`: three bytes decide
abbrev pub is_unicode_ident : List ℕ → Bool
is_unicode_ident t = is_unicode dquote t

-- `materialize_unicode_ident`: "U& with \" as its mark by the same rules, a raw NUL kept"
abbrev pub ident_as : List ℕ → Spelling → Answer
ident_as t s = if_unicode (λ e f u. answer f u (walk (unicode_step e dquote) 0 (part f u t))) (refused 0) s

unfoldable pub ident : List ℕ → Answer
ident t = ident_as t (unicode_spelling dquote t)
