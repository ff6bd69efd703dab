use Rattle.text.proofs.Text.+put_digits.Given as goal

-- the measure is how many digits there may be
abbrev pub decreases-put_digits : goal.decreases-put_digits
decreases-put_digits l = l.n
