-- The bytes and words that are looked for.
use Rattle.std.specs.Prelude.{ℕ, List}
use Rattle.byte_rules.specs.Text.{bytes}

abbrev pub tick : ℕ
tick = 96

abbrev pub tilde : ℕ
tilde = 126

abbrev pub lparen : ℕ
lparen = 40

abbrev pub quote : ℕ
quote = 34

abbrev pub lbracket : ℕ
lbracket = 91

abbrev pub rbracket : ℕ
rbracket = 93

abbrev pub under : ℕ
under = 95

abbrev pub less : ℕ
less = 60

abbrev pub lf : ℕ
lf = 10

abbrev pub cr : ℕ
cr = 13

abbrev pub space : ℕ
space = 32

abbrev pub open_html : List ℕ
open_html = bytes "<HTML>"

abbrev pub close_html : List ℕ
close_html = bytes "</HTML>"
