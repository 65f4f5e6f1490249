mod FirstRound
