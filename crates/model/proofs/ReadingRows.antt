-- Bytes that are refused: numbers 1 to 11, their order and their places.
use mathlib.Core.Path.{refl}
use mathlib.Core.List.{List, [], ◌∷◌, ◌++◌}
use lib.ListN.{take, replicate}
use Rattle.model.specs.Basics.{All}
use Rattle.model.proofs.Computing.{computing}
use Rattle.model.proofs.ExampleBytes.{head, domains, table}
use Rattle.model.proofs.ExampleProblems.{colours, bare}
use Rattle.model.proofs.ExampleRow.{Row, Right}
use Rattle.model.proofs.RowBuilders.{usual, refuses, no_bound, row, unread}

abbrev pub reading_rows : List Row
reading_rows =
    -- 60,001 bytes
    unread (replicate 60001 0) 1 0 ∷
    -- empty
    unread [] 2 0 ∷
    -- one byte
    unread (72 ∷ []) 2 0 ∷
    -- another mark, and nothing after it
    unread (72 ∷ 79 ∷ []) 3 0 ∷
    -- a single field of `HD` missing, and n wrong
    unread (72 ∷ 68 ∷ 25 ∷ 5 ∷ 0 ∷ []) 2 0 ∷
    -- n = 25 and p = 5 together
    unread (head 25 5 257 []) 4 0 ∷
    -- n = 0
    unread (head 0 1 0 (1 ∷ [])) 4 0 ∷
    -- p = 5 and r = 257 together
    unread (head 24 5 257 []) 5 0 ∷
    -- p = 0
    unread (head 1 0 0 []) 5 0 ∷
    -- r = 257, and no ceilings
    unread (head 1 4 257 []) 6 0 ∷
    -- r = 256 is allowed; a ceiling one byte short
    unread (take 9 (head 1 1 256 (1 ∷ []))) 2 0 ∷
    -- the second `DO` missing: the place is the input's length
    unread (head 2 1 0 (1 ∷ []) ++ domains (1 ∷ [])) 2 13 ∷
    -- `CF` where `DO` is due
    unread (head 1 1 1 (1 ∷ []) ++ table 0 [] (0 ∷ [])) 3 10 ∷
    -- `DO` without its size
    unread (head 1 1 0 (1 ∷ []) ++ 68 ∷ 79 ∷ []) 2 10 ∷
    -- d = 9 in the second `DO`
    unread (head 2 1 1 (1 ∷ []) ++ domains (1 ∷ 9 ∷ []) ++ table 1 [] []) 7 13 ∷
    -- d = 0
    unread (bare 0 1) 7 10 ∷
    -- the last `CF` missing: the place is the input's length
    unread (take 133 (colours 100 100)) 2 133 ∷
    -- `DO` where `CF` is due
    unread (head 1 1 1 (1 ∷ []) ++ domains (1 ∷ 1 ∷ [])) 3 13 ∷
    -- `CF` without its arity, and a wrong objective
    unread (head 1 1 1 (1 ∷ []) ++ domains (1 ∷ []) ++ 67 ∷ 70 ∷ 1 ∷ []) 2 13 ∷
    -- objective 1 of p = 1, and arity 4
    unread (head 1 1 1 (1 ∷ []) ++ domains (1 ∷ []) ++ 67 ∷ 70 ∷ 1 ∷ 4 ∷ []) 8 13 ∷
    -- arity 4, and no scope
    unread (head 1 1 1 (1 ∷ []) ++ domains (1 ∷ []) ++ 67 ∷ 70 ∷ 0 ∷ 4 ∷ []) 9 13 ∷
    -- a scope byte missing, and a variable out of range
    unread (head 1 1 1 (1 ∷ []) ++ domains (1 ∷ []) ++ 67 ∷ 70 ∷ 0 ∷ 2 ∷ 1 ∷ []) 2 13 ∷
    -- a scope that names a variable twice, in the second `CF`, and no table
    unread (head 2 1 2 (1 ∷ []) ++ domains (1 ∷ 1 ∷ []) ++ table 0 [] (0 ∷ []) ++ table 0 (1 ∷ 1 ∷ []) []) 10 24 ∷
    -- twice with another between
    unread (head 2 1 1 (1 ∷ []) ++ domains (1 ∷ 1 ∷ []) ++ table 0 (0 ∷ 1 ∷ 0 ∷ []) (0 ∷ [])) 10 16 ∷
    -- twice behind another
    unread (head 2 1 1 (1 ∷ []) ++ domains (1 ∷ 1 ∷ []) ++ table 0 (1 ∷ 0 ∷ 0 ∷ []) (0 ∷ [])) 10 16 ∷
    -- a scope with variable n
    unread (head 2 1 1 (1 ∷ []) ++ domains (1 ∷ 1 ∷ []) ++ table 0 (1 ∷ 2 ∷ []) (0 ∷ [])) 10 16 ∷
    -- variable n behind one that is named twice
    unread (head 2 1 1 (1 ∷ []) ++ domains (1 ∷ 1 ∷ []) ++ table 0 (0 ∷ 0 ∷ 2 ∷ []) (0 ∷ [])) 10 16 ∷
    -- a falling scope is none of these: its table is asked for
    unread (head 2 1 1 (1 ∷ []) ++ domains (1 ∷ 1 ∷ []) ++ table 0 (1 ∷ 0 ∷ []) []) 2 16 ∷
    -- the last table one byte short
    unread (take 154 (colours 100 100)) 2 133 ∷
    -- a leftover byte; a long work buffer is unchanged
    row usual (colours 100 100 ++ 0 ∷ []) [] [] (refuses 11 155) (refuses 11 155) (refuses 11 155) 0 0
    (no_bound 11 155) ∷
    []

pub reading_right : All Right reading_rows
unfolding computing
reading_right = (
  (refl, refl, refl, refl),
  (
    (refl, refl, refl, refl),
    (
      (refl, refl, refl, refl),
      (
        (refl, refl, refl, refl),
        (
          (refl, refl, refl, refl),
          (
            (refl, refl, refl, refl),
            (
              (refl, refl, refl, refl),
              (
                (refl, refl, refl, refl),
                (
                  (refl, refl, refl, refl),
                  (
                    (refl, refl, refl, refl),
                    (
                      (refl, refl, refl, refl),
                      (
                        (refl, refl, refl, refl),
                        (
                          (refl, refl, refl, refl),
                          (
                            (refl, refl, refl, refl),
                            (
                              (refl, refl, refl, refl),
                              (
                                (refl, refl, refl, refl),
                                (
                                  (refl, refl, refl, refl),
                                  (
                                    (refl, refl, refl, refl),
                                    (
                                      (refl, refl, refl, refl),
                                      (
                                        (refl, refl, refl, refl),
                                        (
                                          (refl, refl, refl, refl),
                                          (
                                            (refl, refl, refl, refl),
                                            (
                                              (refl, refl, refl, refl),
                                              (
                                                (refl, refl, refl, refl),
                                                (
                                                  (refl, refl, refl, refl),
                                                  (
                                                    (refl, refl, refl, refl),
                                                    (
                                                      (refl, refl, refl, refl),
                                                      (
                                                        (refl, refl, refl, refl),
                                                        ((refl, refl, refl, refl), ((refl, refl, refl, refl), tt)),
                                                      ),
                                                    ),
                                                  ),
                                                ),
                                              ),
                                            ),
                                          ),
                                        ),
                                      ),
                                    ),
                                  ),
                                ),
                              ),
                            ),
                          ),
                        ),
                      ),
                    ),
                  ),
                ),
              ),
            ),
          ),
        ),
      ),
    ),
  ),
)
