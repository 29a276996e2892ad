mod Occurrences
