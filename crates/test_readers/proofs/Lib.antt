mod TownLemmas
